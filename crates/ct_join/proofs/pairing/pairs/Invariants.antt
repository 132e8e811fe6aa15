use Rattle.std.proofs.Common.{◌≡◌, flat_map}
use Rattle.ct_join.{specs.Pairs.places_below, proofs.Filtered.pairs_at}
use Rattle.ct_join.proofs.pairing.pairs.Given as goal

abbrev pub invariant-loop-place : goal.invariant-loop-place
invariant-loop-place l = l.pairs.items ≡ flat_map (pairs_at l.left l.right) (places_below l.place)
