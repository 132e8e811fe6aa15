use Rattle.std.proofs.Common.{◌≤◌, drop, length}
use Rattle.ct_rewrite.specs.Tidy.{IsTidy}
use Rattle.ct_tidy.proofs.order.is_in_order.Given as goal

abbrev pub invariant-loop-next : goal.invariant-loop-next
invariant-loop-next l = (l.next ≤ length l.world) × IsTidy (drop l.next l.world)

abbrev pub decreases-loop-next : goal.decreases-loop-next
decreases-loop-next l = l.next
