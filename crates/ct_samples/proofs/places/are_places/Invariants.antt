use Rattle.std.{proofs.Common.take, specs.Prelude.{All, IsTrue}}
use Rattle.ct_word.specs.WellFormed.{is_place_of}
use Rattle.ct_samples.proofs.places.are_places.Given as goal

abbrev pub invariant-loop-place : goal.invariant-loop-place
invariant-loop-place l = All (λ p. IsTrue (is_place_of l.words l.of p)) (take l.place-index l.places)
