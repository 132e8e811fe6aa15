use Rattle.std.proofs.Common.{◌≡◌, map, take}
use Rattle.ct_word.specs.Reading.{term_at}
use Rattle.ct_certain.proofs.showing.terms.Given as goal

abbrev pub invariant-loop-place : goal.invariant-loop-place
invariant-loop-place l = l.terms.items ≡ map (term_at l.words) (take l.place-index l.places)
