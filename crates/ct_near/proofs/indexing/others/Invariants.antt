use Rattle.std.proofs.Common.{take}
use Rattle.ct_near.specs.Conjuncts.{AreOthers}
use Rattle.ct_near.proofs.indexing.others.Given as goal

abbrev pub invariant-loop-place : goal.invariant-loop-place
invariant-loop-place l = AreOthers (take l.place-index l.places) l.one l.others.items
