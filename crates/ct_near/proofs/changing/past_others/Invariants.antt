use Rattle.std.proofs.Common.{take}
use Rattle.ct_near.specs.Near.{IsPastOthers}
use Rattle.ct_near.proofs.changing.past_others.Given as goal

abbrev pub invariant-loop-pair : goal.invariant-loop-pair
invariant-loop-pair l = IsPastOthers (take l.pair-index l.world) l.next
