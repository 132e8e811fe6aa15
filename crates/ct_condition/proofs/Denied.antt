-- Which terms stand below the place that a condition folds to.
use Rattle.std.proofs.Common.{◌≡◌, ℕ, Bool, true, false, not, ◌||◌, List, [], ◌∷◌, Option, Some, None, nat_eq, refl, sym, subst, arith, inl, inr}
use Rattle.std.{specs.Prelude.{◌⊎◌, Contains, slice_get, if◌then◌else◌}, proofs.lemmas.Option.none-some}
use Rattle.ct_word.{specs.declared.kinds.Kind.Kind, specs.declared.values.Term.Term, specs.Word.{kind_of, left_of, right_of}, specs.WellFormed.IsWellFormed}
use Rattle.ct_word.{specs.Stands.{TermBelow, through, places_in, places_of}, proofs.Prefixes.get_in_prefix, proofs.Splits.some-injective, specs.Connective.unit}
use Rattle.ct_word.specs.declared.connectives.Connective.{Connective}
use Rattle.ct_arena.specs.Counts.{opening}
use Rattle.ct_condition.specs.Folding.{denied_by, denied_in, denied, are_constants, are_opposite, folded_eq, folded_not, folded_join, literal_place, unit_place, settling_place}
use Rattle.ct_condition.{specs.Terms.{TermsFrom, BelowEither}, proofs.Reached.{first_item, no_term_at, under_word, under_none}}
use Rattle.ct_condition.proofs.Truths.{true_at, false_at}
use mathlib.Core.List.{IsPrefix}
use Rattle.ct_word.specs.declared.kinds.Kind.TheVariants as kind
use Rattle.ct_word.specs.declared.kinds.Class.TheVariants as class

-- the place that a Not denies is one of its fields
field_denied : (o : Option Kind) (a b d : ℕ) → denied_by o a ≡ Some d → Contains (places_in o a b) d
field_denied (Some kind.Not) a b d e = subst (λ x. Contains (a ∷ []) x) (some-injective a d e) (first_item [] a)
field_denied _ a b d e = absurd (none-some d e)

word_denied : (o : Option ℕ) (d : ℕ) → denied_in o ≡ Some d → (w : ℕ) × (o ≡ Some w) × Contains (places_of w) d
unfolding places_of
word_denied (Some w) d e = (w, refl, field_denied (kind_of w) (left_of w) (right_of w) d e)
word_denied None d e = absurd (none-some d e)

pub below_denied : (ws : List ℕ) (c d : ℕ) → denied ws c ≡ Some d → TermsFrom ws d (TermBelow ws c)
below_denied ws c d e t h =
    let w = word_denied (slice_get ws c) d e in
    (h.0, through w.0 d w.1 w.2 h.1, h.2)

-- which place is folded to, by the tests in order
pub equal_tests : (b c : Bool) (p : ℕ) → (if b then Some 0 else if c then Some 1 else None) ≡ Some p → (p ≡ 0) ⊎ (p ≡ 1)
equal_tests true c p e = inl (sym (some-injective 0 p e))
equal_tests false true p e = inr (sym (some-injective 1 p e))
equal_tests false false p e = absurd (none-some p e)

pub not_tests : (b c : Bool) (o : Option ℕ) (p : ℕ) → (if b then Some 1 else if c then Some 0 else o) ≡ Some p → ((p ≡ 0) ⊎ (p ≡ 1)) ⊎ (o ≡ Some p)
not_tests true c o p e = inl (inr (sym (some-injective 1 p e)))
not_tests false true o p e = inl (inl (sym (some-injective 0 p e)))
not_tests false false o p e = inr e

pair_tests : (b1 b2 b3 b4 : Bool) (q c d p : ℕ) → (if b1 then Some q else if b2 then Some d else if b3 then Some c else if b4 then Some q else None) ≡ Some p → (p ≡ q) ⊎ ((p ≡ c) ⊎ (p ≡ d))
pair_tests true b2 b3 b4 q c d p e = inl (sym (some-injective q p e))
pair_tests false true b3 b4 q c d p e = inr (inr (sym (some-injective d p e)))
pair_tests false false true b4 q c d p e = inr (inl (sym (some-injective c p e)))
pair_tests false false false true q c d p e = inl (sym (some-injective q p e))
pair_tests false false false false q c d p e = absurd (none-some p e)

pub is_literal : (b : Bool) → (literal_place b ≡ 0) ⊎ (literal_place b ≡ 1)
is_literal true = inl refl
is_literal false = inr refl

pub join_tests : (j : Connective) (ws : List ℕ) (c d p : ℕ) → folded_join j ws c d ≡ Some p → (p ≡ settling_place j) ⊎ ((p ≡ c) ⊎ (p ≡ d))
join_tests j ws c d p e =
    pair_tests (nat_eq c (settling_place j) || nat_eq d (settling_place j)) (nat_eq c (unit_place j)) (nat_eq d (unit_place j) || nat_eq c d) (are_opposite ws c d) (settling_place j) c d p e

module _ (ws : List ℕ) (formed : IsWellFormed ws) (begins : IsPrefix opening ws) where
  below_true : (t : Term) → TermBelow ws 0 t → ⊥
  unfolding opening
  below_true t h = elim (under_word ws 0 kind.True 0 0 (omega arith) (omega arith) (get_in_prefix opening ws 0 begins (omega arith)) t h) [
    | inl s ↦ no_term_at ws class.Cond 0 t (true_at ws begins formed).class (λ e. cc) s
    | inr u ↦ under_none ws t u
  ]

  below_false : (t : Term) → TermBelow ws 1 t → ⊥
  unfolding opening
  below_false t h = elim (under_word ws 1 kind.False 0 0 (omega arith) (omega arith) (get_in_prefix opening ws 1 begins (omega arith)) t h) [
    | inl s ↦ no_term_at ws class.Cond 1 t (false_at ws begins formed).class (λ e. cc) s
    | inr u ↦ under_none ws t u
  ]

  -- no term stands below true or false
  pub below_literal : (p : ℕ) → (p ≡ 0) ⊎ (p ≡ 1) → TermsFrom ws p (λ t. ⊥)
  below_literal p (inl e) t h = below_true t (subst (λ q. TermBelow ws q t) e h)
  below_literal p (inr e) t h = below_false t (subst (λ q. TermBelow ws q t) e h)

  below_pair : (q c d p : ℕ) → (q ≡ 0) ⊎ (q ≡ 1) → (p ≡ q) ⊎ ((p ≡ c) ⊎ (p ≡ d)) → TermsFrom ws p (BelowEither ws c d)
  below_pair q c d p l (inl e) t h = absurd (below_literal q l t (subst (λ x. TermBelow ws x t) e h))
  below_pair q c d p l (inr (inl e)) t h = inl (subst (λ x. TermBelow ws x t) e h)
  below_pair q c d p l (inr (inr e)) t h = inr (subst (λ x. TermBelow ws x t) e h)

  -- a term below the place that a condition folds to stands below one that was handed in
  pub below_folded_eq : (s u p : ℕ) → folded_eq ws s u ≡ Some p → TermsFrom ws p (BelowEither ws s u)
  below_folded_eq s u p e t h = absurd (below_literal p (equal_tests (nat_eq s u) (are_constants ws s u) p e) t h)

  pub below_folded_not : (c p : ℕ) → folded_not ws c ≡ Some p → TermsFrom ws p (TermBelow ws c)
  below_folded_not c p e t h = elim (not_tests (nat_eq c 0) (nat_eq c 1) (denied ws c) p e) [
    | inl l ↦ absurd (below_literal p l t h)
    | inr d ↦ below_denied ws c p d t h
  ]

  pub below_folded_join : (j : Connective) (c d p : ℕ) → folded_join j ws c d ≡ Some p → TermsFrom ws p (BelowEither ws c d)
  below_folded_join j c d p e = below_pair (settling_place j) c d p (is_literal (not (unit j))) (join_tests j ws c d p e)
