-- Two tuples, compared position by position.
use Rattle.std.specs.Prelude.{◌≡◌, ℕ, zero, suc, Bool, true, false, not, ◌&&◌, ◌||◌, List, All, get_or, nat_eq}
use Rattle.std.specs.List.{list_any}
use Rattle.ct_word.specs.declared.values.Value.{Value}
use Rattle.ct_word.specs.Value.{same_value, cell_at}
use Rattle.ct_condition.specs.Folding.{are_apart}

-- whether a position is one of these
abbrev pub is_in : List ℕ → ℕ → Bool
is_in columns k = list_any (λ c. nat_eq c k) columns

-- whether two tuples are the same at each position below a number that passes a test
abbrev pub same_below : ℕ → (ℕ → Bool) → List Value → List Value → Bool
same_below zero test s t = true
same_below (suc n) test s t = same_below n test s t && (not (test n) || same_value (cell_at s n) (cell_at t n))

-- at none of these columns are the cells different constants
abbrev pub MayAgree : List ℕ → List ℕ → List ℕ → List ℕ → Type 0
MayAgree words left right columns = All (λ k. are_apart words (get_or left k 0) (get_or right k 0) ≡ false) columns
