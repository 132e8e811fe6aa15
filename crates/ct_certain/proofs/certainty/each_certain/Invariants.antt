use Rattle.std.{proofs.Common.{◌*◌, ◌+◌, false, length, take}, specs.Prelude.All}
use Rattle.ct_condition.specs.Writes.{Writes}
use Rattle.ct_certain.specs.Missing.{AreListed, IsSeen}
use Rattle.ct_certain.proofs.certainty.each_certain.Given as goal

abbrev pub invariant-loop-tuple : goal.invariant-loop-tuple
invariant-loop-tuple g l = record {
  writes : Writes g.I.Interner.list g.I.Interner.made g.I.Interner.kept g.I.Interner.lent g.N.Site.log.cap l.fn.pass l.pass (l.tuple-index * (length l.table.rows * (2 * length l.table.columns + 2) + length l.table.columns + 1)) false;
  lists : AreListed (g.I.Interner.list l.fn.pass) (g.I.Interner.list l.pass) l.global l.table.rows (take l.tuple-index l.candidates) l.list.rows.items;
  pool : All (IsSeen (g.I.Interner.list l.pass) l.global l.table.rows) l.pool.items;
}
