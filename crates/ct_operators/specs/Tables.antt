-- Conditional tables over places: when they are well formed, and what they are worth at a valuation.
use Rattle.std.specs.Prelude.{◌≡◌, ◌≢◌, ℕ, Bool, not, List, [], ◌∷◌, length, map, filter, IsTrue, All}
use Rattle.std.specs.List.{IsDistinct}
use Rattle.ct_word.specs.declared.kinds.Class.TheVariants as class
use Rattle.ct_word.specs.declared.values.Value.{Value}
use Rattle.ct_word.specs.declared.values.Term.{Term}
use Rattle.ct_word.specs.declared.values.CRow.{CRow}
use Rattle.ct_word.specs.Value.{World, same_cells}
use Rattle.ct_word.specs.WellFormed.{is_place_of}
use Rattle.ct_word.specs.Stands.{HasNoColumn}
use Rattle.ct_word.specs.Reading.{plain_crow, term_at}
use Rattle.ct_query.specs.Step.{shown_rows}

-- the cells of rows of places, as terms
abbrev pub cells_of : List ℕ → List CRow → List (List Term)
cells_of words rs = map (λ r. map (term_at words) r.cells) rs

-- the tuples that rows of places are worth: the cells, valued, of the rows whose condition holds
abbrev pub value_of_rows : List ℕ → World → List CRow → List (List Value)
value_of_rows words v rs = shown_rows v (map (plain_crow words) rs)

-- a row has this many cells, each of them a term, under a condition; no column stands below them
pub record IsRow (words : List ℕ) (width : ℕ) (r : CRow) : Type 0 where
  pub terms : All (λ p. IsTrue (is_place_of words class.Term p)) r.cells
  pub condition : IsTrue (is_place_of words class.Cond r.cond)
  pub width_is : length r.cells ≡ width
  pub plain : All (HasNoColumn words) (r.cond ∷ r.cells)

-- the rows of a table of this many columns: they are rows, their cells differ, and no condition is the word false
pub record AreRows (words : List ℕ) (width : ℕ) (rs : List CRow) : Type 0 where
  pub each : All (IsRow words width) rs
  pub distinct : IsDistinct same_cells (cells_of words rs)
  pub possible : All (λ r. r.cond ≢ 1) rs

-- the items of a list, each once, where it stands first
abbrev pub firsts : {A : Type 0} → (A → A → Bool) → List A → List A
firsts same [] = []
firsts same (x ∷ xs) = x ∷ filter (λ y. not (same x y)) (firsts same xs)
