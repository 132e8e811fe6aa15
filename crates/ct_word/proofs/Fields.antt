-- The fields of a word of a well formed list name earlier places.
use Rattle.std.{proofs.Common.{◌≡◌, ℕ, ◌<◌, ◌≤◌, true, List, length, Option, Some, None, subst, arith, inl, inr}, specs.Prelude.{slice_get, Contains}}
use Rattle.std.proofs.lemmas.List.Elements.{Contains-append_cases}
use Rattle.ct_word.{specs.declared.kinds.Kind.Kind, specs.Word.{kind_of, left_of, right_of}, proofs.Items.{no_item, sole_item}}
use Rattle.ct_word.specs.WellFormed.{Field, PlaceOf, IsWellFormed, fields_of, fits, is_formed_as}
use Rattle.ct_word.{specs.Stands.{Below, itself, through, place_in, places_in, places_of}, proofs.Splits.{split_at, formed_at, formed_fields, place_within}}

-- a place that a field names stands among the words before
field_before : (front : List ℕ) (f : Field) (n q : ℕ) → fits front f n ≡ true → Contains (place_in f n) q → q < length front
field_before front (PlaceOf c) n q e h = subst (λ p. p < length front) (sole_item n q h) (place_within front c n e)
field_before front _ n q e h = absurd (no_item q h)

fields_before : (front : List ℕ) (o : Option Kind) (a b q : ℕ) → is_formed_as o front a b ≡ true → Contains (places_in o a b) q → q < length front
fields_before front (Some k) a b q e h =
    let fields = formed_fields front k a b e in
    elim (Contains-append_cases (place_in (fields_of k).0 a) (place_in (fields_of k).1 b) q h) [
      | inl l ↦ field_before front (fields_of k).0 a q fields.0 l
      | inr r ↦ field_before front (fields_of k).1 b q fields.1 r
    ]
fields_before front None a b q e h = absurd (no_item q h)

pub named_earlier : (ws : List ℕ) → IsWellFormed ws → (p w q : ℕ) → slice_get ws p ≡ Some w → Contains (places_of w) q → q < p
unfolding places_of
named_earlier ws formed p w q there h =
    let s = split_at ws p w there in
    let lt = fields_before s.front (kind_of w) (left_of w) (right_of w) q (formed_at ws formed p w there s) h in
    omega (arith, s.long, lt)

-- what stands below a place is no later
pub reached_earlier : (ws : List ℕ) → IsWellFormed ws → (p r : ℕ) → Below ws p r → r ≤ p
reached_earlier ws formed p r itself = omega arith
reached_earlier ws formed p r (through w q there among rest) =
    let lt = named_earlier ws formed p w q there among in
    let le = reached_earlier ws formed q r rest in
    omega (arith, lt, le)
