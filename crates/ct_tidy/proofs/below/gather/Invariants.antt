use Rattle.std.proofs.Common.{◌-◌, ◌^◌, ◌∷◌}
use Rattle.ct_tidy.specs.Nulls.{AreGathered}
use Rattle.ct_tidy.proofs.below.gather.Given as goal

abbrev pub invariant-loop-next : goal.invariant-loop-next
invariant-loop-next l = AreGathered l.words (l.cond ∷ l.cells) l.next l.places.keys

abbrev pub decreases-loop-next : goal.decreases-loop-next
decreases-loop-next l = 2 ^ 63 - l.next
