use Rattle.std.proofs.Common.{◌≡◌, [], take}
use Rattle.ct_tidy.specs.Order.{with_nulls}
use Rattle.ct_tidy.proofs.order.put_in_order.Given as goal

abbrev pub invariant-loop-null : goal.invariant-loop-null
invariant-loop-null l = l.out.items ≡ with_nulls l.world [] (take l.null-index l.null-items)
