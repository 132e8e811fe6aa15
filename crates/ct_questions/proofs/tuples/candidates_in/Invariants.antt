use Rattle.std.{proofs.Common.{◌≡◌, ◌*◌, ◌+◌, false, filter, length, take}, specs.Prelude.All}
use Rattle.ct_condition.specs.Writes.{Writes}
use Rattle.ct_certain.specs.Missing.{is_in_each}
use Rattle.ct_questions.specs.Candidates.{IsCandidate, tuples_of}
use Rattle.ct_questions.proofs.tuples.candidates_in.Given as goal

abbrev pub invariant-loop-tuple : goal.invariant-loop-tuple
invariant-loop-tuple g l = record {
  writes : Writes g.I.Interner.list g.I.Interner.made g.I.Interner.kept g.I.Interner.lent g.N.Site.log.cap l.fn.pass l.pass (l.tuple-index * (length l.table.rows * (2 * length l.table.columns + 2) + length l.table.columns + 1)) false;
  tuples : tuples_of l.list.items ≡ filter (is_in_each l.known) (take l.tuple-index l.tuples);
  roots : All (IsCandidate (g.I.Interner.list l.fn.pass) (g.I.Interner.list l.pass) l.global l.table.rows) l.list.items;
}
