use Rattle.std.proofs.Common.{◌≡◌, map, take}
use Rattle.ct_tidy.proofs.order.nulls_in_order.Given as goal

abbrev pub invariant-loop-pair : goal.invariant-loop-pair
invariant-loop-pair l = l.nulls.items ≡ map (λ p. p.0) (take l.pair-index l.world)
