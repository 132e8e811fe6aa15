use Rattle.std.proofs.Common.{◌≤◌, drop, length}
use Rattle.ct_tidy.specs.Order.{IsMapOf}
use Rattle.ct_tidy.proofs.mapped.by_null.Given as goal

abbrev pub invariant-loop-next : goal.invariant-loop-next
invariant-loop-next l = record {
  map : IsMapOf l.values.entries (drop l.next l.pairs);
  within : l.next ≤ length l.pairs;
}

abbrev pub decreases-loop-next : goal.decreases-loop-next
decreases-loop-next l = l.next
