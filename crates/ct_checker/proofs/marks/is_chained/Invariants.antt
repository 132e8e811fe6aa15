use Rattle.ct_checker.specs.Linked.{IsHead}
use Rattle.ct_checker.proofs.marks.is_chained.Given as goal

abbrev pub invariant-loop-place : goal.invariant-loop-place
invariant-loop-place l = IsHead l.falses l.next l.place l.literal

abbrev pub decreases-loop-place : goal.decreases-loop-place
decreases-loop-place l = l.place
