use Rattle.std.proofs.Common.{false, take, ◌*◌}
use Rattle.ct_condition.specs.Writes.{Writes}
use Rattle.ct_questions.specs.Roots.{AreRowRoots}
use Rattle.ct_questions.proofs.rows.row_roots.Given as goal

abbrev pub invariant-loop-row : goal.invariant-loop-row
invariant-loop-row g l = record {
  writes : Writes g.I.Interner.list g.I.Interner.made g.I.Interner.kept g.I.Interner.lent g.N.Site.log.cap l.fn.pass l.pass (l.row-index * 1) false;
  roots : AreRowRoots (g.I.Interner.list l.fn.pass) (g.I.Interner.list l.pass) l.global (take l.row-index l.rows) l.roots.items;
}
