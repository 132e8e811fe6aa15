use Rattle.std.proofs.Common.{take}
use Rattle.ct_worlds.specs.Gathering.{has, AreAdded}
use Rattle.ct_worlds.proofs.gathering.add.Given as goal

abbrev pub invariant-loop-place : goal.invariant-loop-place
invariant-loop-place l = AreAdded (has l.initial.places) (has l.places) (take l.place-index l.more)
