-- The truth of runs of conditions, as words are added.
use Rattle.std.{proofs.Common.{◌≡◌, ℕ, ◌+◌, ◌<◌, Bool, List, [], refl, ap, sym, ◌∙◌, length, take, get_or}, specs.List.{list_all, list_any}}
use Rattle.std.proofs.lemmas.List.Folds.{list_all_more, list_any_more}
use Rattle.ct_word.{specs.Condition.holds, proofs.Prefixes.{place_in_prefix, place_within, condition_in_prefix}, specs.Connective.{join, unit}}
use Rattle.ct_word.specs.declared.connectives.Connective.{Connective}
use Rattle.ct_condition.{specs.Truth.{Truth, HasTruth, join_at}, proofs.Truths.in_place}
use mathlib.Core.List.{IsPrefix}
use Rattle.ct_word.specs.declared.kinds.Class.TheVariants as class
use Rattle.ct_word.specs.declared.connectives.Connective.TheVariants as connective

-- a place keeps its truth
pub truth_in_prefix : (old new : List ℕ) (p : ℕ) (t : Truth) → IsPrefix old new → HasTruth old p t → HasTruth new p t
truth_in_prefix old new p t longer h = record {
  class = place_in_prefix old new class.Cond p longer h.class;
  small = h.small;
  truth_is = λ v row. ap (holds v row) (condition_in_prefix old new p longer (place_within old class.Cond p h.class)) ∙ h.truth_is v row;
}

-- the truth of a list under a connective
abbrev pub list_under : {X : Type 0} → Connective → (X → Bool) → List X → Bool
list_under connective.And p xs = list_all p xs
list_under connective.Or p xs = list_any p xs

pub none_under : {X : Type 0} (j : Connective) (p : X → Bool) → unit j ≡ list_under j p []
none_under connective.And p = refl
none_under connective.Or p = refl

list_more : {X : Type 0} (j : Connective) (p : X → Bool) (xs : List X) (i : ℕ) (d : X) → i < length xs → list_under j p (take (i + 1) xs) ≡ join j (list_under j p (take i xs)) (p (get_or xs i d))
list_more connective.And p xs i d lt = list_all_more p xs i d lt
list_more connective.Or p xs i d lt = list_any_more p xs i d lt

-- one item more of a run: p stands for the items before it, next for the item, q for both
pub one_more : {X : Type 0} (j : Connective) (f : X → Truth) (list : List X) (i : ℕ) (d : X) → i < length list → (old mid new : List ℕ) (p next q : ℕ) → IsPrefix old mid → HasTruth mid next (f (get_or list i d))
    → HasTruth old p (λ v row. list_under j (λ x. f x v row) (take i list)) → HasTruth new q (join_at j mid p next) → HasTruth new q (λ v row. list_under j (λ x. f x v row) (take (i + 1) list))
one_more j f list i d within old mid new p next q longer item before h =
    let all : ℕ → Truth = λ n v row. list_under j (λ x. f x v row) (take n list) in
    in_place new q (join_at j mid p next) (all (i + 1)) h
    (λ v row. (λ k. join j ((truth_in_prefix old mid p (all i) longer before).truth_is v row k) (item.truth_is v row k)) ∙ sym (list_more j (λ x. f x v row) list i d within))
