use Rattle.std.proofs.Common.{take}
use Rattle.ct_equality.{specs.Valued.AreNumberedTo, specs.Indexed.{AreIndexed, IsTable}}
use Rattle.ct_equality.proofs.values.number_classes.Given as goal

abbrev pub invariant-loop-place : goal.invariant-loop-place
invariant-loop-place l = record {
  numbered : AreNumberedTo l.words l.initial.members l.members (take l.place-index l.terms) l.next;
  indexed : AreIndexed l.found.words l.members;
  table : IsTable l.members l.next l.taken;
}
