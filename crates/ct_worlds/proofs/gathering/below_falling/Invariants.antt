use Rattle.std.specs.Prelude.{reverse}
use Rattle.ct_worlds.specs.Gathering.{has, IsPassedTo}
use Rattle.ct_worlds.proofs.gathering.below_falling.Given as goal

abbrev pub invariant-loop-place : goal.invariant-loop-place
invariant-loop-place l = IsPassedTo l.words l.roots l.bound (has l.waiting) (reverse l.passed.items)

abbrev pub decreases-loop-place : goal.decreases-loop-place
decreases-loop-place l = l.bound
