-- Rows in the making, before they are merged.
use Rattle.std.specs.Prelude.{◌≡◌, ℕ, Bool, List, IsTrue, All}
use mathlib.Core.List.{IsPrefix}
use Rattle.ct_word.specs.declared.kinds.Class.TheVariants as class
use Rattle.ct_word.specs.declared.values.Value.{Value}
use Rattle.ct_word.specs.declared.values.Term.{Term}
use Rattle.ct_word.specs.declared.values.CRow.{CRow}
use Rattle.ct_word.specs.Value.{World}
use Rattle.ct_word.specs.Condition.{holds_at}
use Rattle.ct_word.specs.WellFormed.{is_place_of}
use Rattle.ct_word.specs.Reading.{condition_at}
use Rattle.ct_operators.specs.Tables.{cells_of, value_of_rows, IsRow}
use Rattle.ct_operators.specs.Terms.{RowsFrom}

-- rows over the words now, which earlier words begin, with these cells, worth these tuples at each valuation, with terms of a source alone
pub record Builds (old now : List ℕ) (width : ℕ) (cells : List (List Term)) (worth : World → List (List Value)) (source : Term → Type 0) (out : List CRow) : Type 0 where
  pub grown : IsPrefix old now
  pub each : All (IsRow now width) out
  pub cells_are : cells_of now out ≡ cells
  pub worth_is : (v : World) → value_of_rows now v out ≡ worth v
  pub from : RowsFrom now out source

-- a place is of a condition that holds at the valuations that pass a test
pub record HoldsWhere (words : List ℕ) (place : ℕ) (test : World → Bool) : Type 0 where
  pub class : IsTrue (is_place_of words class.Cond place)
  pub holds : (v : World) → holds_at v (condition_at words place) ≡ test v
