use Rattle.std.proofs.Common.{take}
use Rattle.ct_rewrite.specs.Below.{has_in, AreAdded}
use Rattle.ct_rewrite.proofs.below.add.Given as goal

abbrev pub invariant-loop-place : goal.invariant-loop-place
invariant-loop-place l = AreAdded (has_in l.initial.places) (has_in l.places) (take l.place-index l.more)
