use Rattle.std.proofs.Common.{◌≡◌, true, map, take}
use Rattle.ct_rewrite.specs.Signs.{number}
use Rattle.ct_rewrite.proofs.numbering.numbers.Given as goal

abbrev pub invariant-loop-place : goal.invariant-loop-place
invariant-loop-place l = l.numbers.items ≡ map (λ p. number p true) (take l.place-index l.places)
