-- The columns that a predicate on pairs of rows asks to be equal.
use Rattle.std.specs.Prelude.{◌≡◌, ◌<◌, ◌+◌, ◌-◌, ℕ, Bool, false, ◌&&◌, List, [], ◌++◌, length, min, max, nat_lt, nat_le, Option, Some, None, slice_index_or, if◌then◌else◌}
use Rattle.std.specs.Option.{option_to_list}
use Rattle.std.specs.List.{list_any}
use Rattle.ct_word.specs.declared.values.Value.{Value}
use Rattle.ct_word.specs.declared.values.Term.{Term}
use Rattle.ct_word.specs.declared.values.Term.TheVariants as term
use Rattle.ct_word.specs.Value.{World, same_value, cell_at}
use Rattle.ct_word.specs.Condition.{Condition, Conditions, Same, And, none, also, holds}
use Rattle.ct_query.specs.Fits.{AreColumnsBelow}
use Rattle.ct_condition.specs.Folding.{are_apart}
use Rattle.ct_algebra.specs.declared.equals.Equal.{Equal}

-- the position of a column
abbrev pub column_of : Term → Option ℕ
column_of (term.Column k) = Some k
column_of _ = None

-- two columns of a pair whose left row has so many cells, where one is of each row
abbrev pub across : ℕ → Option ℕ → Option ℕ → Option Equal
across width (Some i) (Some j) =
    if nat_lt (min i j) width && nat_le width (max i j) then Some (record { left = min i j; right = max i j - width }) else None
across width _ _ = None

-- the columns that an equality has equal, where one is of each row
abbrev pub equal_in : ℕ → Condition → Option Equal
equal_in width (Same s t) = across width (column_of s) (column_of t)
equal_in width _ = None

-- those of a run
abbrev pub equals_in : ℕ → Conditions → List Equal
equals_in width none = []
equals_in width (also c cs) = option_to_list (equal_in width c) ++ equals_in width cs

-- those of a condition: of the parts of an And, or its own
abbrev pub equals_of : ℕ → Condition → List Equal
equals_of width (And cs) = equals_in width cs
equals_of width c = option_to_list (equal_in width c)

-- a condition on pairs whose left row has so many cells has two columns equal: it holds only where both are worth the same
pub record HasEqual (width : ℕ) (c : Condition) (e : Equal) : Type 0 where
  pub left : e.left < width
  pub right : (n : ℕ) → AreColumnsBelow (width + n) c → e.right < n
  pub decides : (v : World) (l r : List Value) → length l ≡ width → same_value (cell_at l e.left) (cell_at r e.right) ≡ false → holds v (l ++ r) c ≡ false

-- whether two rows of these cells have different constants in columns that are to be equal
abbrev pub differ_in : List ℕ → List Equal → List ℕ → List ℕ → Bool
differ_in words es left right = list_any (λ e. are_apart words (slice_index_or left e.left 0) (slice_index_or right e.right 0)) es
