-- The places that a word's fields name.
use Rattle.std.proofs.Common.{◌≡◌, ℕ, true, false, List, [], Some, sym, subst}
use Rattle.std.{specs.Prelude.{Bool, slice_get, Contains}, proofs.lemmas.Bool.false≢true}
use Rattle.std.proofs.lemmas.List.Elements.{Contains-append_left, Contains-append_right}
use Rattle.ct_word.{specs.declared.kinds.Kind.Kind, specs.Word.{kind_of, left_of, right_of}, specs.WellFormed.{Field, PlaceOf, fields_of}}
use Rattle.ct_word.{specs.Stands.{Below, itself, through, place_in, places_in, places_of}, proofs.Items.first_item}

-- whether a field names a place
abbrev names_place : Field → Bool
names_place (PlaceOf c) = true
names_place _ = false

place_named : (f : Field) (n : ℕ) → names_place f ≡ true → Contains (place_in f n) n
place_named (PlaceOf c) n e = first_item [] n
place_named _ n e = absurd (false≢true e)

pub left_named : (w : ℕ) (k : Kind) → kind_of w ≡ Some k → names_place (fields_of k).0 ≡ true → Contains (places_of w) (left_of w)
unfolding places_of
left_named w k e n =
    subst (λ o. Contains (places_in o (left_of w) (right_of w)) (left_of w)) (sym e)
    (Contains-append_left (place_in (fields_of k).0 (left_of w)) (place_in (fields_of k).1 (right_of w)) (left_of w) (place_named (fields_of k).0 (left_of w) n))

pub right_named : (w : ℕ) (k : Kind) → kind_of w ≡ Some k → names_place (fields_of k).1 ≡ true → Contains (places_of w) (right_of w)
unfolding places_of
right_named w k e n =
    subst (λ o. Contains (places_in o (left_of w) (right_of w)) (right_of w)) (sym e)
    (Contains-append_right (place_in (fields_of k).0 (left_of w)) (place_in (fields_of k).1 (right_of w)) (right_of w) (place_named (fields_of k).1 (right_of w) n))

pub below_more : (ws : List ℕ) (p q r w : ℕ) → Below ws p q → slice_get ws q ≡ Some w → Contains (places_of w) r → Below ws p r
below_more ws p q r w (itself {p = x}) at h = through w r at h itself
below_more ws p q r w (through v m first_at among rest) at h = through v m first_at among (below_more ws m q r w rest at h)
