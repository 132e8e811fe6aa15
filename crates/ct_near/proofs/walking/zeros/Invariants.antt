use Rattle.std.proofs.Common.{◌-◌, length}
use Rattle.ct_near.specs.Walks.{AreOld}
use Rattle.ct_near.proofs.walking.zeros.Given as goal

abbrev pub invariant-loop-zeros : goal.invariant-loop-zeros
invariant-loop-zeros l = AreOld l.zeros.items 1

abbrev pub decreases-loop-zeros : goal.decreases-loop-zeros
decreases-loop-zeros l = l.count - length l.zeros.items
