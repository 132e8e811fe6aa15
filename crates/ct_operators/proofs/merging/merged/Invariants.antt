use Rattle.std.proofs.Common.{false, take, length}
use Rattle.ct_condition.specs.Writes.{Writes}
use Rattle.ct_operators.specs.Merging.{Gathers, repeats}
use Rattle.ct_operators.proofs.merging.merged.Given as goal

abbrev pub invariant-loop-row : goal.invariant-loop-row
invariant-loop-row g l = record {
  gathers : Gathers (g.I.Interner.list l.fn.pass) (g.I.Interner.list l.pass) (length l.fn.columns) (take (length l.yielded) l.fn.rows.items) l.gathered;
  writes : Writes g.I.Interner.list g.I.Interner.made g.I.Interner.kept g.I.Interner.lent g.N.Site.log.cap l.fn.pass l.pass (repeats (g.I.Interner.list l.fn.pass) (take (length l.yielded) l.fn.rows.items)) false;
}
