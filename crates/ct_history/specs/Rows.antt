-- Rows of places that can be put into the log.
use Rattle.std.specs.Prelude.{◌<◌, ◌^◌, ℕ, List, [], All, IsTrue}
use Rattle.ct_word.{specs.declared.values.CRow.CRow, specs.declared.values.Term.Term, specs.Condition.Condition, specs.Change.PlainRow, specs.Stands.StandsAt}
use Rattle.ct_word.{specs.Reading.{IsRow, IsRowList}, specs.WellFormed.is_place_of}
use Rattle.ct_word.specs.declared.kinds.Class.TheVariants as class

-- these are places of terms
abbrev pub AreTerms : List ℕ → List ℕ → Type 0
AreTerms words places = All (λ p. IsTrue (is_place_of words class.Term p)) places

-- the cells of a row are places of terms, and its condition is a place of a condition
pub record IsRowOf (words : List ℕ) (r : CRow) : Type 0 where
  pub terms : AreTerms words r.cells
  pub condition : IsTrue (is_place_of words class.Cond r.cond)

-- a place stands for the row without cells
pub record IsNoRow (words : List ℕ) (start : ℕ) : Type 0 where
  pub stands : StandsAt words start (IsRow [])
  pub class : IsTrue (is_place_of words class.Row start)
  pub small : start < 2 ^ 28

-- a place stands for these rows
pub record AreRowsAt (words : List ℕ) (place : ℕ) (rows : List PlainRow) : Type 0 where
  pub stands : StandsAt words place (IsRowList rows)
  pub class : IsTrue (is_place_of words class.RowList place)
  pub small : place < 2 ^ 28

-- a row of terms under a condition
abbrev pub row_under : Condition → List Term → PlainRow
row_under c cells = record { cells = cells; condition = c }
