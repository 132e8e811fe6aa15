-- The truth of the conditions at places: of true and false, of two constants, of a negation.
use Rattle.std.proofs.Common.{◌≡◌, ℕ, [], ◌<◌, ◌^◌, Bool, true, false, not, List, Option, Some, None, refl, ap, sym, ◌∙◌, arith, length}
use Rattle.std.{specs.Prelude.{◌≢◌, nat_eq, slice_get, IsTrue}, proofs.lemmas.Bool.{false≢true, false_from_ne_true, and_parts, eq-eqb}}
use Rattle.ct_word.{specs.declared.kinds.Kind.Kind, specs.declared.values.Value.Value, specs.Constant.{is_constant_kind, is_constant_word}}
use Rattle.ct_word.{specs.Value.{World, at}, specs.Word.{kind_of, left_of, right_of}, specs.Condition.holds, proofs.Alike.value_decides, proofs.WordAt.word_is}
use Rattle.ct_word.{specs.Reading.{Meaning, by_kind, meanings, as_term, as_cond, term_at}, specs.WellFormed.{IsWellFormed, is_place_of}}
use Rattle.ct_word.{proofs.Constants.one_constant, proofs.Growth.place_within, proofs.Prefixes.get_in_prefix, proofs.Splits.meaning_at}
use Rattle.ct_word.proofs.Stands.{stands_for_packed, class_of_packed}
use Rattle.ct_arena.specs.Counts.{opening}
use Rattle.ct_condition.{specs.Folding.{are_apart, are_constants}, specs.Truth.{Truth, HasTruth, Negates, truth_at, equal_at}}
use mathlib.Core.List.{IsPrefix}
use Rattle.ct_word.specs.declared.kinds.Kind.TheVariants as kind
use Rattle.ct_word.specs.declared.kinds.Class.TheVariants as class

-- what a place is worth by itself
pub itself : (ws : List ℕ) (c : ℕ) → length ws < 2 ^ 28 → IsTrue (is_place_of ws class.Cond c) → HasTruth ws c (truth_at ws c)
itself ws c small e =
    let lt = place_within ws class.Cond c e in
    record { class = e; small = omega arith; truth_is = λ v row. refl }

-- the same truth
pub in_place : (ws : List ℕ) (c : ℕ) (t u : Truth) → HasTruth ws c t → ((v : World) (row : List Value) → t v row ≡ u v row) → HasTruth ws c u
in_place ws c t u h same = record { class = h.class; small = h.small; truth_is = λ v row. h.truth_is v row ∙ same v row }

module _ (ws : List ℕ) (begins : IsPrefix opening ws) (formed : IsWellFormed ws) where
  pub true_at : HasTruth ws 0 (λ v row. true)
  unfolding opening
  true_at =
      let at_place = get_in_prefix opening ws 0 begins (omega arith) in
      record {
        class = class_of_packed ws 0 kind.True 0 0 (omega arith) (omega arith) at_place;
        small = omega arith;
        truth_is = λ v row. ap (λ o. holds v row (as_cond o)) (stands_for_packed ws 0 kind.True 0 0 formed (omega arith) (omega arith) at_place);
      }

  pub false_at : HasTruth ws 1 (λ v row. false)
  unfolding opening
  false_at =
      let at_place = get_in_prefix opening ws 1 begins (omega arith) in
      record {
        class = class_of_packed ws 1 kind.False 0 0 (omega arith) (omega arith) at_place;
        small = omega arith;
        truth_is = λ v row. ap (λ o. holds v row (as_cond o)) (stands_for_packed ws 1 kind.False 0 0 formed (omega arith) (omega arith) at_place);
      }

-- a term and itself
pub equal_itself : (ws : List ℕ) (s t : ℕ) → s ≡ t → (v : World) (row : List Value) → true ≡ equal_at ws s t v row
equal_itself ws s t e v row = sym ((value_decides _ _).1 (ap (λ p. at v row (term_at ws p)) e))

-- a constant is the same at each row
by_kind_row : (o : Option Kind) (ms : List Meaning) (a b : ℕ) → is_constant_kind o ≡ true → (v : World) (row : List Value)
    → at v row (as_term (Some (by_kind o ms a b))) ≡ at v [] (as_term (Some (by_kind o ms a b)))
by_kind_row (Some kind.Number) ms a b e v row = refl
by_kind_row (Some kind.TextConstant) ms a b e v row = refl
by_kind_row (Some kind.OtherValue) ms a b e v row = refl
by_kind_row _ ms a b e v row = absurd (false≢true e)

constant_row : (ws : List ℕ) (formed : IsWellFormed ws) (s : ℕ) (o : Option ℕ) → slice_get ws s ≡ o → is_constant_word o ≡ true → (v : World) (row : List Value)
    → at v row (term_at ws s) ≡ at v [] (term_at ws s)
constant_row ws formed s None there e v row = absurd (false≢true e)
constant_row ws formed s (Some w) there e v row =
    let is = meaning_at ws formed s w there in
    ap (λ o. at v row (as_term o)) is ∙ by_kind_row (kind_of w) (meanings ws) (left_of w) (right_of w) e v row ∙ sym (ap (λ o. at v [] (as_term o)) is)

-- two constants
pub constants_differ : (ws : List ℕ) (s t : ℕ) → IsWellFormed ws → s ≢ t → is_constant_word (slice_get ws s) ≡ true → is_constant_word (slice_get ws t) ≡ true
    → (v : World) (row : List Value) → false ≡ equal_at ws s t v row
constants_differ ws s t formed ne cs ct v row =
    sym (false_from_ne_true _ (λ same. ne (one_constant ws formed v s t cs ct
    (sym (constant_row ws formed s _ refl cs v row) ∙ (value_decides _ _).0 same ∙ constant_row ws formed t _ refl ct v row))))

-- so terms that are apart
pub apart_differ : (ws : List ℕ) (s t : ℕ) → IsWellFormed ws → are_apart ws s t ≡ true → (v : World) (row : List Value) → equal_at ws s t v row ≡ false
apart_differ ws s t formed e v row =
    let parts = and_parts (not (nat_eq s t)) (are_constants ws s t) e in
    let both = and_parts (is_constant_word (slice_get ws s)) (is_constant_word (slice_get ws t)) parts.1 in
    sym (constants_differ ws s t formed (λ same. false≢true (sym (ap not (eq-eqb s t same)) ∙ parts.0)) both.0 both.1 v row)

-- the word not
pub negation : (ws : List ℕ) (c w : ℕ) → IsWellFormed ws → slice_get ws c ≡ Some w → kind_of w ≡ Some kind.Not → Negates ws c (left_of w)
negation ws c w formed there is = record {
  class = (word_is ws c w there formed kind.Not is (omega arith) (omega arith)).left.1;
  opposite = λ v row. ap (λ o. holds v row (as_cond o)) (meaning_at ws formed c w there ∙ ap (λ o. Some (by_kind o (meanings ws) (left_of w) (right_of w))) is);
}

not_not : (b : Bool) → b ≡ not (not b)
not_not true = refl
not_not false = refl

-- what a negation negates is the negation of it
pub negation_back : (ws : List ℕ) (c d : ℕ) → length ws < 2 ^ 28 → Negates ws c d → HasTruth ws d (λ v row. not (truth_at ws c v row))
negation_back ws c d small n =
    in_place ws d (truth_at ws d) (λ v row. not (truth_at ws c v row)) (itself ws d small n.class)
    (λ v row. not_not (truth_at ws d v row) ∙ sym (ap not (n.opposite v row)))

module _ (ws : List ℕ) (begins : IsPrefix opening ws) (formed : IsWellFormed ws) (c : ℕ) where
  pub not_true_at : c ≡ 0 → HasTruth ws 1 (λ v row. not (truth_at ws c v row))
  not_true_at e =
      in_place ws 1 (λ v row. false) (λ v row. not (truth_at ws c v row)) (false_at ws begins formed)
      (λ v row. sym (ap (λ p. not (truth_at ws p v row)) e ∙ ap not ((true_at ws begins formed).truth_is v row)))

  pub not_false_at : c ≡ 1 → HasTruth ws 0 (λ v row. not (truth_at ws c v row))
  not_false_at e =
      in_place ws 0 (λ v row. true) (λ v row. not (truth_at ws c v row)) (true_at ws begins formed)
      (λ v row. sym (ap (λ p. not (truth_at ws p v row)) e ∙ ap not ((false_at ws begins formed).truth_is v row)))
