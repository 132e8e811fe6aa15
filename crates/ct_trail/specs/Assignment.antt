-- Partial assignments, which give some variables a truth.
use Rattle.std.specs.Prelude.{◌≡◌, ℕ, zero, suc, Bool, true, false, List, length, slice_index_or, slice_set, if◌then◌else◌, ◌||◌}
use Rattle.std.specs.List.{list_any, list_all, sum_by}
use Rattle.std.specs.Ordering.{int_eq}
use Rattle.std.proofs.Math.IntN.{ℤ, pos, negsuc}
use Rattle.ct_trail.specs.declared.assignment.Truth.{Truth}
use Rattle.ct_trail.specs.declared.assignment.Truth.TheVariants as truth
use Rattle.ct_trail.specs.Literal.{Clause, is_literal, is_positive, place_of, has}

-- the truth of the opposite
abbrev pub inverted : Truth → Truth
inverted truth.Open = truth.Open
inverted truth.True = truth.False
inverted truth.False = truth.True

-- the truth of a literal
abbrev pub truth_of : List Truth → ℤ → Truth
truth_of truths (pos zero) = truth.Open
truth_of truths (pos (suc n)) = slice_index_or truths n truth.Open
truth_of truths (negsuc n) = inverted (slice_index_or truths n truth.Open)

abbrev pub is_true : Truth → Bool
is_true truth.True = true
is_true _ = false

abbrev pub is_false : Truth → Bool
is_false truth.False = true
is_false _ = false

abbrev pub is_open : Truth → Bool
is_open truth.Open = true
is_open _ = false

-- the assignment that makes a literal true
unfoldable pub assigned : List Truth → ℤ → List Truth
assigned truths l = slice_set truths (place_of l) (if is_positive l then truth.True else truth.False)

-- 1 for a variable without a truth
abbrev pub open_weight : Truth → ℕ
open_weight truth.Open = 1
open_weight _ = 0

-- the number of variables without a truth
unfoldable pub open_count : List Truth → ℕ
open_count truths = sum_by open_weight truths

-- whether a literal of the clause is true
unfoldable pub satisfied : List Truth → Clause → Bool
satisfied truths c = list_any (λ l. is_true (truth_of truths l)) c

-- whether each literal of the clause is false
unfoldable pub falsified : List Truth → Clause → Bool
falsified truths c = list_all (λ l. is_false (truth_of truths l)) c

-- whether each literal of the clause is false, or is l
unfoldable pub falsified_but : List Truth → ℤ → Clause → Bool
falsified_but truths l c = list_all (λ m. is_false (truth_of truths m) || int_eq l m) c

-- l has a variable of the assignment, and no truth
pub record IsOpen (truths : List Truth) (l : ℤ) : Type 0 where
  pub without_truth : truth_of truths l ≡ truth.Open
  pub within : is_literal (length truths) l ≡ true

-- l is the one literal of the clause that is not false, and has no truth
pub record IsUnit (truths : List Truth) (c : Clause) (l : ℤ) : Type 0 where
  pub is_free : IsOpen truths l
  pub member : has c l ≡ true
  pub others : falsified_but truths l c ≡ true
