-- The truth of a condition that was put, over the places that its fields name.
use Rattle.std.{proofs.Common.{◌≡◌, ℕ, ◌<◌, ◌^◌, not, List, Some, Result, Ok, Err, ap, ◌∙◌, inl, inr, rules}, specs.Prelude.{IsTrue, IfOk, ◌⊎◌}}
use Rattle.ct_word.{specs.declared.values.Value.Value, specs.Value.{World, at, same_value}, specs.Condition.holds, specs.Stands.StandsAt, specs.Connective.join}
use Rattle.ct_word.{specs.Reading.{by_kind, meanings, as_cond, term_at, condition_at}, specs.WellFormed.{is_place_of, is_formed_as}, proofs.Growth.place_within}
use Rattle.ct_word.{specs.declared.kinds.Kind.Kind, proofs.Prefixes.{term_in_prefix, condition_in_prefix}, specs.declared.connectives.Connective.Connective}
use Rattle.ct_word.proofs.Joins.{joined_holds}
use Rattle.ct_condition.{specs.Truth.{Truth, HasTruth, truth_at, equal_at, not_at, join_at}, specs.Folding.kind_under, proofs.Folds.join_swap}
use Rattle.ct_condition.proofs.Values.{same_turned}
use mathlib.Core.List.{IsPrefix}
use Rattle.ct_word.specs.declared.kinds.Kind.TheVariants as kind
use Rattle.ct_word.specs.declared.kinds.Class.TheVariants as class
use Rattle.ct_word.specs.declared.connectives.Connective.TheVariants as connective

-- three clauses of an answer together
pub together : {X Y : Type 0} (r : Result X Y) (P Q R S : X → Type 0) → ((x : X) → P x → Q x → R x → S x) → IfOk r P → IfOk r Q → IfOk r R → IfOk r S
together (Ok x) P Q R S f p q s = f x p q s
together (Err y) P Q R S f p q s = tt

-- a word of two conditions, the earlier one first, is as the table of kinds asks
formed_under : (j : Connective) (ws : List ℕ) (a b : ℕ) → IsTrue (is_place_of ws class.Cond a) → IsTrue (is_place_of ws class.Cond b) → a < b → IsTrue (is_formed_as (Some (kind_under j)) ws a b)
formed_under connective.And ws a b l r lt = Prim.search rules
formed_under connective.Or ws a b l r lt = Prim.search rules

pub formed_either : (j : Connective) (k : Kind) → k ≡ kind_under j → (ws : List ℕ) (c d : ℕ) → IsTrue (is_place_of ws class.Cond c) → IsTrue (is_place_of ws class.Cond d)
    → (c < d → IsTrue (is_formed_as (Some k) ws c d)) × (d < c → IsTrue (is_formed_as (Some k) ws d c))
formed_either j k e ws c d l r = rw e (formed_under j ws c d l r, formed_under j ws d c r l)

-- a word of two conditions under a connective
joined_truth : (j : Connective) (ws : List ℕ) (p a b : ℕ) → StandsAt ws p (by_kind (Some (kind_under j)) (meanings ws) a b) → (v : World) (row : List Value) → truth_at ws p v row ≡ join_at j ws a b v row
joined_truth connective.And ws p a b e v row = ap (λ o. holds v row (as_cond o)) e ∙ joined_holds connective.And v row (condition_at ws a) (condition_at ws b)
joined_truth connective.Or ws p a b e v row = ap (λ o. holds v row (as_cond o)) e ∙ joined_holds connective.Or v row (condition_at ws a) (condition_at ws b)

module _ (old new : List ℕ) (longer : IsPrefix old new) (place : ℕ) (is : IsTrue (is_place_of new class.Cond place)) (small : place < 2 ^ 28) where
  -- the truth of a condition at an earlier place stays
  stays : (c : ℕ) → IsTrue (is_place_of old class.Cond c) → (v : World) (row : List Value) → truth_at new c v row ≡ truth_at old c v row
  stays c e v row = ap (holds v row) (condition_in_prefix old new c longer (place_within old class.Cond c e))

  by_truth : (t : Truth) → ((v : World) (row : List Value) → truth_at new place v row ≡ t v row) → HasTruth new place t
  by_truth t e = record { class = is; small = small; truth_is = e }

  module _ (s t : ℕ) (left : IsTrue (is_place_of old class.Term s)) (right : IsTrue (is_place_of old class.Term t)) where
    equal_stays : (v : World) (row : List Value) → equal_at new s t v row ≡ equal_at old s t v row
    equal_stays v row =
        λ i. same_value (at v row (term_in_prefix old new s longer (place_within old class.Term s left) i))
        (at v row (term_in_prefix old new t longer (place_within old class.Term t right) i))

    pub equal_put : StandsAt new place (by_kind (Some kind.Equal) (meanings new) s t) ⊎ StandsAt new place (by_kind (Some kind.Equal) (meanings new) t s) → HasTruth new place (equal_at old s t)
    equal_put (inl e) = by_truth (equal_at old s t) (λ v row. ap (λ o. holds v row (as_cond o)) e ∙ equal_stays v row)
    equal_put (inr e) =
        by_truth (equal_at old s t)
        (λ v row. ap (λ o. holds v row (as_cond o)) e ∙ same_turned (at v row (term_at new t)) (at v row (term_at new s)) ∙ equal_stays v row)

  module _ (c : ℕ) (left : IsTrue (is_place_of old class.Cond c)) where
    pub not_put : StandsAt new place (by_kind (Some kind.Not) (meanings new) c 0) → HasTruth new place (not_at old c)
    not_put e = by_truth (not_at old c) (λ v row. ap (λ o. holds v row (as_cond o)) e ∙ ap not (stays c left v row))

  module _ (j : Connective) (c d : ℕ) (left : IsTrue (is_place_of old class.Cond c)) (right : IsTrue (is_place_of old class.Cond d)) where
    both_stay : (v : World) (row : List Value) → join_at j new c d v row ≡ join_at j old c d v row
    both_stay v row = λ i. join j (stays c left v row i) (stays d right v row i)

    pub join_put : StandsAt new place (by_kind (Some (kind_under j)) (meanings new) c d) ⊎ StandsAt new place (by_kind (Some (kind_under j)) (meanings new) d c) → HasTruth new place (join_at j old c d)
    join_put (inl e) = by_truth (join_at j old c d) (λ v row. joined_truth j new place c d e v row ∙ both_stay v row)
    join_put (inr e) = by_truth (join_at j old c d) (λ v row. joined_truth j new place d c e v row ∙ join_swap j (truth_at new d v row) (truth_at new c v row) ∙ both_stay v row)
