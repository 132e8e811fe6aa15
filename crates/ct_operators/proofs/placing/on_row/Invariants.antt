use Rattle.std.{proofs.Common.{◌≡◌, false, length, take}, specs.Prelude.Contains}
use Rattle.ct_condition.specs.Writes.{Writes}
use Rattle.ct_operators.specs.Placing.{ArePut, steps}
use Rattle.ct_operators.proofs.placing.on_row.Given as goal

abbrev pub invariant-loop-number : goal.invariant-loop-number
invariant-loop-number g l = record {
  put : ArePut (g.I.Interner.list l.pass) l.cells (Contains (take l.number l.places)) l.places l.put;
  writes : Writes g.I.Interner.list g.I.Interner.made g.I.Interner.kept g.I.Interner.lent g.N.Site.log.cap l.fn.pass l.pass (steps (g.I.Interner.list l.fn.pass) (take l.number l.places)) false;
  long : length l.put ≡ length l.places;
}
