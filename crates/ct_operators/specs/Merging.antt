-- Rows merged by their cells.
use Rattle.std.specs.Prelude.{◌≡◌, ◌≢◌, ◌<◌, ◌-◌, ℕ, Bool, not, nat_eq, List, [], ◌∷◌, ◌++◌, length, map, get_or, set, All, if◌then◌else◌}
use Rattle.std.specs.List.{IsDistinct, list_any}
use mathlib.Core.List.{IsPrefix}
use Rattle.ct_word.specs.declared.values.CRow.{CRow}
use Rattle.ct_word.specs.Value.{World, same_text, same_cells}
use Rattle.ct_word.specs.Sublist.{IsSublist}
use Rattle.ct_query.specs.Database.{SameSet}
use Rattle.ct_condition.specs.Truth.{HasTruth, or_at}
use Rattle.ct_condition.specs.Terms.{TermsFrom, BelowEither}
use Rattle.ct_operators.specs.Tables.{cells_of, value_of_rows, IsRow, AreRows, firsts}
use Rattle.ct_operators.specs.Terms.{TermOfRows, RowsFrom}

-- rows, given as their cells and the places of their conditions
abbrev pub rows_of : List (List ℕ × ℕ) → List CRow
rows_of es = map (λ e. record { cells = e.0; cond = e.1 }) es

-- one where cells are those of one of the rows, none where they are not
abbrev pub known : List ℕ → List CRow → ℕ
known cells rs = if list_any (λ r. same_text cells r.cells) rs then 1 else 0

-- how many of these rows have the cells of an earlier one
abbrev pub repeats : List ℕ → List CRow → ℕ
repeats words rs = length rs - length (firsts same_cells (cells_of words rs))

-- a row was put last, or its condition merged into that of the row with its cells
pub data Merged (old new : List ℕ) (before : List CRow) (r : CRow) : List CRow → Type 0 where
  put_last : All (λ x. x.cells ≢ r.cells) before → Merged old new before r (before ++ r ∷ [])
  into : (i cond : ℕ) → i < length before → (get_or before i r).cells ≡ r.cells → HasTruth new cond (or_at old (get_or before i r).cond r.cond)
      → TermsFrom new cond (BelowEither old (get_or before i r).cond r.cond) → Merged old new before r (set before i (record { cells = r.cells; cond = cond }))

-- whether a row is under another condition than the word false
abbrev pub is_possible : CRow → Bool
is_possible r = not (nat_eq r.cond 1)

-- rows that are worth what others are; their cells are those of the others, each once, where they stand first
pub record Gathers (old now : List ℕ) (width : ℕ) (done out : List CRow) : Type 0 where
  pub grown : IsPrefix old now
  pub each : All (IsRow now width) out
  pub distinct : IsDistinct same_cells (cells_of now out)
  pub values : (v : World) → SameSet (value_of_rows now v out) (value_of_rows old v done)
  pub order : cells_of now out ≡ firsts same_cells (cells_of old done)
  pub from : RowsFrom now out (TermOfRows old done)

-- rows of the words now, put in one by one, and what is gathered of them
pub record AreGathered (words : List ℕ) (width : ℕ) (done out : List CRow) : Type 0 where
  pub rows : All (IsRow words width) done
  pub gathers : Gathers words words width done out

-- the rows of a table that are worth what others are; their cells are, in order, among those of the others, each where it stands first
pub record IsGathered (words : List ℕ) (width : ℕ) (done out : List CRow) : Type 0 where
  pub are : AreRows words width out
  pub values : (v : World) → SameSet (value_of_rows words v out) (value_of_rows words v done)
  pub order : IsSublist (cells_of words out) (firsts same_cells (cells_of words done))
  pub from : RowsFrom words out (TermOfRows words done)
