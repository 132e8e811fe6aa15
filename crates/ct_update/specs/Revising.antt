-- Updates of few rows, as rows that take the places of others.
use Rattle.std.specs.Prelude.{◌≡◌, ◌<◌, ℕ, List, length, All}
use Rattle.std.specs.List.{filter}
use Rattle.ct_word.specs.declared.values.CRow.{CRow}
use Rattle.ct_word.specs.Value.{same_cells}
use Rattle.std.specs.List.{IsDistinct}
use Rattle.ct_query.specs.Updates.{with_items}
use Rattle.ct_operators.specs.Merging.{is_possible}
use Rattle.ct_operators.specs.Tables.{cells_of}
use Rattle.ct_operators.specs.declared.table.CTable.{CTable}
use Rattle.ct_update.specs.Updating.{all_halves}
use Rattle.ct_update.specs.declared.revising.Revision.{Revision}
use Rattle.ct_update.specs.declared.revising.Revision.TheVariants as revision

-- a table after a revision
abbrev pub revised : CTable → Revision → CTable
revised t (revision.Rows edits) = record { columns = t.columns; rows = with_items edits.items t.rows }
revised t (revision.Table u) = u

-- a revision is one of a table: each row takes the place of one that is there, or another table has its columns
abbrev pub FitsRevision : CTable → Revision → Type 0
FitsRevision t (revision.Rows edits) = All (λ e. e.0 < length t.rows) edits.items
FitsRevision t (revision.Table u) = u.columns ≡ t.columns

-- these rows, in their places, make the rows of all halves that are not under the word false, and no two have the same cells
pub record AreReplaced (words : List ℕ) (sets : List (ℕ × ℕ)) (rows : List CRow) (conds : List (ℕ × ℕ)) (edits : List (ℕ × CRow)) : Type 0 where
  pub within : All (λ e. e.0 < length rows) edits
  pub are : with_items edits rows ≡ filter is_possible (all_halves words sets rows conds)
  pub distinct : IsDistinct same_cells (cells_of words (with_items edits rows))
