-- Rows of a table that get conditions at their cells.
use Rattle.std.specs.Prelude.{◌≡◌, ◌≢◌, ℕ, nat_eq, List, [], ◌∷◌, ◌++◌, map, None, Some, if◌then◌else◌}
use Rattle.ct_word.specs.declared.values.CRow.{CRow}
use Rattle.ct_word.specs.Sublist.{IsSublist}
use Rattle.ct_word.specs.Value.{World, same_cells}
use Rattle.ct_query.specs.Database.{SameSet}
use Rattle.ct_condition.specs.Truth.{HasTruth, or_at}
use Rattle.ct_condition.specs.Terms.{TermsFrom, BelowEither}
use Rattle.ct_operators.specs.declared.table.CTable.{CTable}
use Rattle.ct_operators.specs.Merging.{rows_of, Gathers}
use Rattle.ct_operators.specs.Tables.{AreRows, value_of_rows, cells_of, firsts}
use Rattle.ct_operators.specs.Terms.{TermOfRows, RowsFrom}
pub use Rattle.ct_rows.specs.Entries.{find, put}

-- rows with each of these conditions at its cells
abbrev pub put_each : List (List ℕ × ℕ) → List (List ℕ × ℕ) → List (List ℕ × ℕ)
put_each es [] = es
put_each es (p ∷ ps) = put_each (put es p.0 p.1) ps

-- the same without the conditions that are the word false
abbrev pub grown : List (List ℕ × ℕ) → List (List ℕ × ℕ) → List (List ℕ × ℕ)
grown es [] = es
grown es (p ∷ ps) = grown (if nat_eq p.1 1 then es else put es p.0 p.1) ps

-- no two entries have the same cells
abbrev pub Apart : List (List ℕ × ℕ) → Type 0
Apart [] = Unit {0}
Apart (p ∷ ps) = (find p.0 ps ≡ None) × Apart ps

-- where a row is there already, its condition was not the word false, and is not the word false
abbrev pub Fits : List (List ℕ × ℕ) → List (List ℕ × ℕ) → Type 0
Fits es ps = (cells : List ℕ) (c d : ℕ) → find cells ps ≡ Some c → find cells es ≡ Some d → (d ≢ 1) × (c ≢ 1)

-- the cells and the conditions of rows
abbrev pub entries_of : List CRow → List (List ℕ × ℕ)
entries_of rs = map (λ r. (r.cells, r.cond)) rs

-- rows of a table after these conditions are put at their cells
abbrev pub rows_after : List CRow → List (List ℕ × ℕ) → List CRow
rows_after rs ps = rows_of (grown (entries_of rs) ps)

-- a row's condition was joined to the one that its cells have; it is not the word false where that one is not
pub data Joins (old new : List ℕ) (es : List (List ℕ × ℕ)) (r : CRow) (cond : ℕ) : Type 0 where
  alone : find r.cells es ≡ None → cond ≡ r.cond → Joins old new es r cond
  with_first : (first : ℕ) → find r.cells es ≡ Some first → HasTruth new cond (or_at old first r.cond) → TermsFrom new cond (BelowEither old first r.cond)
      → (first ≢ 1 → cond ≢ 1) → Joins old new es r cond

-- these conditions, put at their cells in a table, gather the rows that it is to get
pub record AreGathered (old new : List ℕ) (width : ℕ) (es : List (List ℕ × ℕ)) (rows : List CRow) (ps : List (List ℕ × ℕ)) : Type 0 where
  pub gathers : Gathers old new width (rows_of es ++ rows) (rows_of (put_each es ps))
  pub apart : Apart ps
  pub fits : Fits es ps

-- rows and further ones, rows of the same cells being one: where they first stood
pub record AreInserted (old new : List ℕ) (width : ℕ) (rows more after : List CRow) : Type 0 where
  pub are : AreRows new width after
  pub tuples : (v : World) → SameSet (value_of_rows new v after) (value_of_rows old v rows ++ value_of_rows old v more)
  pub order : IsSublist (cells_of new after) (firsts same_cells (cells_of old rows ++ cells_of old more))
  pub part : IsSublist (cells_of new after) (cells_of old rows ++ cells_of old more)
  pub terms : RowsFrom new after (TermOfRows old (rows ++ more))

-- a table whose rows stand in a map from their cells to their conditions
pub record Keyed : Type 0 where
  pub columns : List (List ℕ)
  pub entries : List (List ℕ × ℕ)

-- a table of these columns and entries
abbrev pub table_with : List (List ℕ) → List (List ℕ × ℕ) → CTable
table_with columns es = record { columns = columns; rows = rows_of es }

-- the table
abbrev pub table_of : Keyed → CTable
table_of k = table_with k.columns k.entries
