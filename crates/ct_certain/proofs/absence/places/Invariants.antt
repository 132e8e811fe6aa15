use Rattle.std.proofs.Common.{false, take, ◌*◌}
use Rattle.ct_condition.specs.Writes.{Writes}
use Rattle.ct_certain.specs.Missing.{AreOfTuple}
use Rattle.ct_certain.proofs.absence.places.Given as goal

abbrev pub invariant-loop-value : goal.invariant-loop-value
invariant-loop-value g l = record {
  writes : Writes g.I.Interner.list g.I.Interner.made g.I.Interner.kept g.I.Interner.lent g.N.Site.log.cap l.fn.pass l.pass (l.value-index * 1) false;
  places : AreOfTuple (g.I.Interner.list l.pass) (take l.value-index l.tuple) l.places.items;
}
