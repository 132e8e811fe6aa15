-- Which equalities a condition needs, and what follows where one of them does not hold.
use Rattle.std.proofs.Common.{◌≡◌, ℕ, ◌<◌, Bool, true, false, not, ◌&&◌, List, [], ◌∷◌, ap, sym, subst, refl, ◌∙◌, inl, inr}
use Rattle.std.{specs.Prelude.{◌⊎◌, IsTrue, All}, proofs.lemmas.Bool.and_right, proofs.lemmas.List.Elements.{All-nil, All-cons}}
use Rattle.ct_word.{specs.declared.values.Value.Value, specs.declared.values.CRow.CRow, specs.Value.{World, at, same_value}}
use Rattle.ct_word.{specs.Condition.{holds, holds_at}, specs.Reading.{condition_at}, specs.WellFormed.{IsWellFormed, is_place_of}, proofs.Joins.joined_holds}
use Rattle.ct_word.proofs.Prefixes.{place_within, place_in_prefix, condition_in_prefix, term_in_prefix}
use Rattle.ct_worlds.{specs.Shape.{shape_at, IsShaped}, proofs.Shaped.shaped}
use Rattle.ct_arena.specs.Counts.{opening}
use Rattle.ct_condition.{specs.Folding.are_apart, specs.Terms.TermsFrom, proofs.Truths.apart_differ, proofs.Denied.below_literal}
use Rattle.ct_operators.{specs.Building.HoldsWhere, specs.Placing.{IsCellFor, holds_for, tuple_of}, specs.Terms.{TermOfRow, IsPlaced}}
use Rattle.ct_operators.{proofs.Holding.{holds_as, holds_itself, holds_false}, proofs.Reaching.foremost}
use Rattle.ct_update.specs.Needing.{NeedsPart, IsNeeded}
use mathlib.Core.List.{IsPrefix}
use Rattle.ct_word.specs.declared.kinds.Class.TheVariants as class
use Rattle.ct_word.specs.declared.connectives.Connective.TheVariants as connective
use Rattle.ct_worlds.specs.declared.shape.Shape.TheVariants as shape

module _ (ws : List ℕ) (root cond : ℕ) (part : NeedsPart ws root cond) where
  -- the terms of an equality
  pub equal_needed : (s t : ℕ) → IsShaped ws cond (shape.Equal s t) → IsNeeded ws root (s, t)
  equal_needed s t is = record {
    terms = (is.terms.0, is.terms.1.0);
    needed = λ v tuple e. part v tuple (ap (holds v tuple) is.condition ∙ e);
  }

  -- both parts of an And
  module _ (formed : IsWellFormed ws) (placed : IsTrue (is_place_of ws class.Cond cond)) (a b : ℕ) (is : shape_at ws cond ≡ shape.Joined connective.And a b) where
    both : IsShaped ws cond (shape.Joined connective.And a b)
    both = subst (IsShaped ws cond) is (shaped ws cond formed placed)

    by_both : (v : World) (tuple : List Value) → holds v tuple (condition_at ws cond) ≡ (holds v tuple (condition_at ws a) && holds v tuple (condition_at ws b))
    by_both v tuple = ap (holds v tuple) both.condition ∙ joined_holds connective.And v tuple (condition_at ws a) (condition_at ws b)

    pub left_needed : NeedsPart ws root a
    left_needed v tuple e = part v tuple (by_both v tuple ∙ ap (λ x. x && holds v tuple (condition_at ws b)) e)

    pub right_needed : NeedsPart ws root b
    right_needed v tuple e = part v tuple (by_both v tuple ∙ and_right (holds v tuple (condition_at ws a)) (holds v tuple (condition_at ws b)) e)

    pub left_placed : IsTrue (is_place_of ws class.Cond a)
    left_placed = both.parts.0.placed

    pub right_placed : IsTrue (is_place_of ws class.Cond b)
    right_placed = both.parts.1.0.placed

    pub left_below : a < cond
    left_below = both.parts.0.below

-- terms of one value on a row that are different constants
pub never_apart : (ws : List ℕ) → IsWellFormed ws → (cells : List ℕ) (pair : ℕ × ℕ) (left right cond : ℕ) → IsCellFor ws cells pair.0 left → IsCellFor ws cells pair.1 right → are_apart ws left right ≡ true
    → IsNeeded ws cond pair → (v : World) → holds_for ws cond cells v ≡ false
never_apart ws formed cells pair left right cond l r apart need v =
    need.needed v (tuple_of ws cells v) ((λ i. same_value (sym (l.worth v) i) (sym (r.worth v) i)) ∙ apart_differ ws left right formed apart v [])

-- that a condition holds nowhere, of the words and the cells that are at hand
pub never_on : (ws old cs cells : List ℕ) → ws ≡ old → cs ≡ cells → (cond : ℕ) (pairs : List (ℕ × ℕ)) (b : Bool) → ((c : ℕ) → All (IsNeeded ws c) pairs → IsTrue b → (v : World) → holds_for ws c cs v ≡ false)
    → IsTrue b → All (IsNeeded old cond) pairs → (v : World) → holds_for old cond cells v ≡ false
never_on ws old cs cells e f cond pairs b made is all v =
    subst (λ x. holds_for x cond cells v ≡ false) e (subst (λ x. holds_for ws cond x v ≡ false) f (made cond (subst (λ x. All (IsNeeded x cond) pairs) (sym e) all) is v))

-- what is needed, as words are added
pub needed_later : (old now : List ℕ) → IsPrefix old now → (cond : ℕ) → IsTrue (is_place_of old class.Cond cond) → (pair : ℕ × ℕ) → IsNeeded old cond pair → IsNeeded now cond pair
needed_later old now longer cond placed pair need = record {
  terms = (place_in_prefix old now class.Term pair.0 longer need.terms.0, place_in_prefix old now class.Term pair.1 longer need.terms.1);
  needed = λ v tuple e.
      ap (holds v tuple) (condition_in_prefix old now cond longer (place_within old class.Cond cond placed))
      ∙ need.needed v tuple ((λ i. same_value (at v tuple (sym (term_in_prefix old now pair.0 longer (place_within old class.Term pair.0 need.terms.0)) i))
      (at v tuple (sym (term_in_prefix old now pair.1 longer (place_within old class.Term pair.1 need.terms.1)) i))) ∙ e);
}

-- the two conditions of a row for which another never holds: its own, and the word false
module _ (ws : List ℕ) (begins : IsPrefix opening ws) (formed : IsWellFormed ws) (cond : ℕ) (r : CRow) (is : IsTrue (is_place_of ws class.Cond r.cond)) (never : (v : World) → holds_for ws cond r.cells v ≡ false) where
  and_not : (a h : Bool) → h ≡ false → a ≡ (a && not h)
  and_not true h e = sym (ap not e)
  and_not false h e = refl

  pub never_stays : HoldsWhere ws r.cond (λ v. holds_at v (condition_at ws r.cond) && not (holds_for ws cond r.cells v))
  never_stays = holds_as ws r.cond (λ v. holds_at v (condition_at ws r.cond)) _ (λ v. and_not (holds_at v (condition_at ws r.cond)) (holds_for ws cond r.cells v) (never v)) (holds_itself ws r.cond is)

  pub never_goes : HoldsWhere ws 1 (λ v. holds_at v (condition_at ws r.cond) && holds_for ws cond r.cells v)
  never_goes = holds_as ws 1 (λ v. false) _ (λ v. sym (and_right (holds_at v (condition_at ws r.cond)) (holds_for ws cond r.cells v) (never v))) (holds_false ws begins formed)

  pub never_terms : All (λ place. TermsFrom ws place (λ t. TermOfRow ws r t ⊎ IsPlaced ws cond r.cells t)) (r.cond ∷ 1 ∷ [])
  never_terms =
      All-cons (λ place. TermsFrom ws place (λ t. TermOfRow ws r t ⊎ IsPlaced ws cond r.cells t)) r.cond (1 ∷ []) (λ t h. inl (record { place = r.cond; among = foremost r.cond r.cells; below = h }))
      (All-cons (λ place. TermsFrom ws place (λ t. TermOfRow ws r t ⊎ IsPlaced ws cond r.cells t)) 1 [] (λ t h. absurd (below_literal ws formed begins 1 (inr refl) t h))
      (All-nil (λ place. TermsFrom ws place (λ t. TermOfRow ws r t ⊎ IsPlaced ws cond r.cells t))))
