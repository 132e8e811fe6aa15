-- What is gathered of pairs of rows, with some of their cells.
use Rattle.std.specs.Prelude.{◌<◌, ℕ, List, length, map, All}
use Rattle.ct_word.specs.declared.values.Term.{Term}
use Rattle.ct_word.specs.declared.values.CRow.{CRow}
use Rattle.ct_word.specs.Condition.{Condition}
use Rattle.ct_operators.specs.Tables.{IsRow}
use Rattle.ct_operators.specs.Projection.{picked_row}
use Rattle.ct_operators.specs.Merging.{AreGathered}
use Rattle.ct_algebra.specs.Joining.{MakesPairs}

-- a row over the words, with a cell at each of these positions
abbrev pub HasCells : List ℕ → List ℕ → CRow → Type 0
HasCells words ks r = IsRow words (length r.cells) r × All (λ k. k < length r.cells) ks

-- rows were made of pairs of these rows, of those for which a condition holds, and are gathered with the cells at these positions
pub record PicksPairs (old now : List ℕ) (width : ℕ) (ks : List ℕ) (c : Condition) (ls rs : List CRow) (source : Term → Type 0) (out : List CRow) : Type 0 where
  pub done : List CRow
  pub made : MakesPairs old now width c ls rs source done
  pub gathered : AreGathered now (length ks) (map (picked_row ks) done) out
