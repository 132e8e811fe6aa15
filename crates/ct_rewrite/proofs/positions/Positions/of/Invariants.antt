use Rattle.std.proofs.Common.{◌≡◌, map, take}
use Rattle.ct_rewrite.specs.Below.{position_at}
use Rattle.ct_rewrite.proofs.positions.Positions.of.Given as goal

abbrev pub invariant-loop-place : goal.invariant-loop-place
invariant-loop-place l = l.positions.items ≡ map (position_at l.self) (take l.place-index l.places)
