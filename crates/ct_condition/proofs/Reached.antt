-- Which terms are reached from a place, as words are added.
use Rattle.std.proofs.Common.{◌≡◌, ◌<◌, ◌^◌, ℕ, List, [], ◌∷◌, length, Some, Result, Ok, Err, get_or, refl, ap, sym, subst, ◌∙◌, arith, inl, inr}
use Rattle.std.{specs.Prelude.{◌⊎◌, All, Contains, IfOk, IsTrue, slice_get}, proofs.lemmas.Option.slice_get_within}
use Rattle.std.proofs.lemmas.List.Elements.{All-contains, All-get_or, Contains-append_cases, Contains-get_or}
use Rattle.ct_word.{specs.declared.kinds.Kind.Kind, specs.declared.kinds.Class.Class, specs.declared.values.Term.Term, specs.Reading.IsTerm}
use Rattle.ct_word.{specs.Word.{word_of, code_of}, proofs.Places.meaning_of_class, specs.WellFormed.{Field, PlaceOf, IsWellFormed, fields_of, is_place_of}}
use Rattle.ct_word.{specs.Stands.{StandsAt, Below, itself, through, TermBelow, class_of_meaning, place_in, places_in, places_of}, proofs.Splits.some-injective}
use Rattle.ct_word.{proofs.Packed.{kind_of_parts, left_of_parts, right_of_parts}, proofs.Prefixes.{get_in_prefix, meaning_in_prefix, place_within}}
use Rattle.ct_arena.proofs.Fronts.{formed_front}
use Rattle.ct_condition.specs.Terms.{TermsFrom, BelowEither, BelowSome, AtOrUnder}
use mathlib.Core.List.{IsPrefix}
pub use Rattle.ct_word.proofs.Items.{first_item, no_item, sole_item}
pub use Rattle.ct_word.proofs.Fields.{named_earlier, reached_earlier}
use Rattle.ct_word.specs.declared.kinds.Kind.TheVariants as kind
use Rattle.ct_word.specs.declared.kinds.Class.TheVariants as class

-- the first words of a well formed list are one
pub formed_before : (old new : List ℕ) → IsPrefix old new → IsWellFormed new → IsWellFormed old
formed_before old new longer formed = formed_front old new longer formed

-- the place that a field names is the field
field_names : (f : Field) (n q : ℕ) → Contains (place_in f n) q → n ≡ q
field_names (PlaceOf c) n q h = sole_item n q h
field_names _ n q h = absurd (no_item q h)

-- no term stands at a place of another class
pub no_term_at : (ws : List ℕ) (c : Class) (p : ℕ) (t : Term) → IsTrue (is_place_of ws c p) → (class.Term ≡ c → ⊥) → StandsAt ws p (IsTerm t) → ⊥
no_term_at ws c p t e ne s =
    let m = meaning_of_class ws c p e in
    let same : m.0 ≡ IsTerm t = some-injective m.0 (IsTerm t) (sym m.1 ∙ s) in
    ne (some-injective class.Term c (ap class_of_meaning (sym same) ∙ m.2))

-- what stands below a place of the first words does so in them
module _ (old new : List ℕ) (longer : IsPrefix old new) (formed : IsWellFormed new) where
  reached_before : (p r : ℕ) → p < length old → Below new p r → Below old p r
  reached_before p r lt itself = itself
  reached_before p r lt (through w q there among rest) =
      through w q (sym (get_in_prefix old new p longer lt) ∙ there) among (reached_before q r (omega (arith, named_earlier new formed p w q there among)) rest)

  pub terms_before : (p : ℕ) (t : Term) → p < length old → TermBelow new p t → TermBelow old p t
  terms_before p t lt h =
      (h.0, reached_before p h.0 lt h.1, sym (meaning_in_prefix old new h.0 longer (omega (arith, reached_earlier new formed p h.0 h.1))) ∙ h.2)

  pub either_before : (c d : ℕ) (t : Term) → c < length old → d < length old → BelowEither new c d t → BelowEither old c d t
  either_before c d t l r (inl h) = inl (terms_before c t l h)
  either_before c d t l r (inr h) = inr (terms_before d t r h)

  pub some_before : (c : Class) (places : List ℕ) (t : Term) → All (λ p. IsTrue (is_place_of old c p)) places → BelowSome new places t → BelowSome old places t
  some_before c places t are h = record {
    place = h.place;
    among = h.among;
    below = terms_before h.place t (place_within old c h.place (All-contains (λ p. IsTrue (is_place_of old c p)) places h.place are h.among)) h.below;
  }

-- and goes on to stand below it
reached_after : (old new : List ℕ) → IsPrefix old new → (p r : ℕ) → Below old p r → Below new p r
reached_after old new longer p r itself = itself
reached_after old new longer p r (through w q there among rest) =
    through w q (get_in_prefix old new p longer (slice_get_within old p w there) ∙ there) among (reached_after old new longer q r rest)

pub terms_after : (old new : List ℕ) → IsPrefix old new → IsWellFormed old → (p : ℕ) (t : Term) → p < length old → TermBelow old p t → TermBelow new p t
terms_after old new longer formed p t lt h =
    (h.0, reached_after old new longer p h.0 h.1, meaning_in_prefix old new h.0 longer (omega (arith, reached_earlier old formed p h.0 h.1)) ∙ h.2)

module _ (ws : List ℕ) where
  by_word : (p r w : ℕ) (t : Term) → slice_get ws p ≡ Some w → Below ws p r → StandsAt ws r (IsTerm t) → StandsAt ws p (IsTerm t) ⊎ BelowSome ws (places_of w) t
  by_word p r w t there itself s = inl s
  by_word p r w t there (through v q is among rest) s =
      inr (record { place = q; among = subst (λ x. Contains (places_of x) q) (some-injective v w (sym is ∙ there)) among; below = (r, rest, s) })

  -- a term below a packed word stands at its place or below its fields
  pub under_word : (p : ℕ) (k : Kind) (a b : ℕ) → a < 2 ^ 28 → b < 2 ^ 28 → slice_get ws p ≡ Some (word_of k a b) → TermsFrom ws p (AtOrUnder ws p k a b)
  unfolding places_of
  under_word p k a b l r there t h =
      let same : places_of (word_of k a b) ≡ places_in (Some k) a b =
      λ i. places_in (kind_of_parts k (code_of k) a b refl l r i) (left_of_parts (code_of k) a b l r i) (right_of_parts (code_of k) a b l r i) in
      elim (by_word p h.0 (word_of k a b) t there h.1 h.2) [
        | inl s ↦ inl s
        | inr u ↦ inr (subst (λ ps. BelowSome ws ps t) same u)
      ]

  pub under_none : (t : Term) → BelowSome ws [] t → ⊥
  under_none t u = no_item u.place u.among

  pub under_one : (p : ℕ) (t : Term) → BelowSome ws (p ∷ []) t → TermBelow ws p t
  under_one p t u = subst (λ q. TermBelow ws q t) (sym (sole_item p u.place u.among)) u.below

  under_either : (k : Kind) (a b : ℕ) (t : Term) → BelowSome ws (places_in (Some k) a b) t → BelowEither ws a b t
  under_either k a b t u = elim (Contains-append_cases (place_in (fields_of k).0 a) (place_in (fields_of k).1 b) u.place u.among) [
    | inl l ↦ inl (subst (λ q. TermBelow ws q t) (sym (field_names (fields_of k).0 a u.place l)) u.below)
    | inr r ↦ inr (subst (λ q. TermBelow ws q t) (sym (field_names (fields_of k).1 b u.place r)) u.below)
  ]

  -- a term below the word of two places stands at it or below one of them, whichever comes first
  pub at_or_either : (p : ℕ) (k : Kind) (a b : ℕ) → TermsFrom ws p (AtOrUnder ws p k a b) → TermsFrom ws p (λ t. StandsAt ws p (IsTerm t) ⊎ BelowEither ws a b t)
  at_or_either p k a b from t h = elim (from t h) [ inl s ↦ inl s | inr u ↦ inr (under_either k a b t u) ]

  swapped : (a b : ℕ) (t : Term) → BelowEither ws a b t → BelowEither ws b a t
  swapped a b t (inl h) = inr h
  swapped a b t (inr h) = inl h

  pub at_or_swapped : (p : ℕ) (k : Kind) (a b : ℕ) → TermsFrom ws p (AtOrUnder ws p k b a) → TermsFrom ws p (λ t. StandsAt ws p (IsTerm t) ⊎ BelowEither ws a b t)
  at_or_swapped p k a b from t h = elim (from t h) [ inl s ↦ inl s | inr u ↦ inr (swapped b a t (under_either k b a t u)) ]

  -- no term stands below a place of another class, where none stands below its fields
  pub none_under : (c : Class) (p : ℕ) (k : Kind) (a b : ℕ) → IsTrue (is_place_of ws c p) → (class.Term ≡ c → ⊥) → ((t : Term) → BelowSome ws (places_in (Some k) a b) t → ⊥)
      → TermsFrom ws p (AtOrUnder ws p k a b) → TermsFrom ws p (λ t. ⊥)
  none_under c p k a b is ne none from t h = elim (from t h) [ inl s ↦ no_term_at ws c p t is ne s | inr u ↦ none t u ]

  term_is : (p : ℕ) (t u : Term) → StandsAt ws p (IsTerm t) → StandsAt ws p (IsTerm u) → t ≡ u
  term_is p t u s r = let same : Some (IsTerm t) ≡ Some (IsTerm u) = sym s ∙ r in cc

  -- the only term below its own word, where none stands below the fields
  pub only_term : (p : ℕ) (k : Kind) (a b : ℕ) (u : Term) → ((t : Term) → BelowSome ws (places_in (Some k) a b) t → ⊥) → StandsAt ws p (IsTerm u)
      → TermsFrom ws p (AtOrUnder ws p k a b) → TermsFrom ws p (λ t. t ≡ u)
  only_term p k a b u none stands from t h = elim (from t h) [ inl s ↦ term_is p t u s stands | inr x ↦ absurd (none t x) ]

module _ (old new : List ℕ) (longer : IsPrefix old new) (formed : IsWellFormed new) (p : ℕ) (is : IsTrue (is_place_of new class.Cond p)) where
  -- a term below the word of one place stood below it before
  pub put_one : (c : ℕ) → c < length old → TermsFrom new p (AtOrUnder new p kind.Not c 0) → TermsFrom new p (TermBelow old c)
  put_one c lt from t h = elim (from t h) [
    | inl s ↦ absurd (no_term_at new class.Cond p t is (λ e. cc) s)
    | inr u ↦ terms_before old new longer formed c t lt (under_one new c t u)
  ]

  -- and one below the word of two places below one of them
  pub put_either : (c d : ℕ) → c < length old → d < length old → TermsFrom new p (λ t. StandsAt new p (IsTerm t) ⊎ BelowEither new c d t) → TermsFrom new p (BelowEither old c d)
  put_either c d l r from t h = elim (from t h) [
    | inl s ↦ absurd (no_term_at new class.Cond p t is (λ e. cc) s)
    | inr e ↦ either_before old new longer formed c d t l r e
  ]

-- a term below the conjunction of conditions before the next one stands below one of them, and so does one with it
pub all_below : (first old new : List ℕ) → IsPrefix first old → IsWellFormed old → (cs : List ℕ) (i d : ℕ) → i < length cs → All (λ c. IsTrue (is_place_of first class.Cond c)) cs → (place q : ℕ)
    → TermsFrom old place (BelowSome first cs) → TermsFrom new q (BelowEither old place (get_or cs i d)) → TermsFrom new q (BelowSome first cs)
all_below first old new longer formed cs i d lt are place q before from t h = elim (from t h) [
  | inl b ↦ before t b
  | inr b ↦
      let item = get_or cs i d in
      record {
        place = item;
        among = Contains-get_or cs i d lt;
        below = terms_before first old longer formed item t (place_within first class.Cond item (All-get_or (λ c. IsTrue (is_place_of first class.Cond c)) cs i d lt are)) b;
      }
]

-- a clause about each answer, from two of them
pub both_of : {X Y : Type 0} (r : Result X Y) (P Q R : X → Type 0) → ((x : X) → P x → Q x → R x) → IfOk r P → IfOk r Q → IfOk r R
both_of (Ok x) P Q R f p q = f x p q
both_of (Err y) P Q R f p q = tt

pub as_named : {Y : Type 0} (ws : List ℕ) (r : Result ℕ Y) (t u : Term) → IfOk r (λ p. TermsFrom ws p (λ x. x ≡ t)) → t ≡ u → IfOk r (λ p. TermsFrom ws p (λ x. x ≡ u))
as_named ws (Ok p) t u from e = λ x h. from x h ∙ e
as_named ws (Err y) t u from e = tt

pub as_stands : {Y : Type 0} (ws : List ℕ) (r : Result ℕ Y) (t u : Term) → IfOk r (λ p. StandsAt ws p (IsTerm t)) → IfOk r (λ p. StandsAt ws p (IsTerm u)) → IfOk r (λ p. TermsFrom ws p (λ x. x ≡ t)) → IfOk r (λ p. TermsFrom ws p (λ x. x ≡ u))
as_stands ws (Ok p) t u s r from = λ x h. from x h ∙ term_is ws p t u s r
as_stands ws (Err y) t u s r from = tt
