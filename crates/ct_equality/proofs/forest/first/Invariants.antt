use Rattle.ct_equality.specs.Forest.{IsWay}
use Rattle.ct_equality.proofs.forest.first.Given as goal

abbrev pub invariant-loop-parents : goal.invariant-loop-parents
invariant-loop-parents l = IsWay l.initial.parents l.parents l.place l.at

abbrev pub decreases-loop-parents : goal.decreases-loop-parents
decreases-loop-parents l = l.at
