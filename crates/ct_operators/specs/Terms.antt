-- Which terms stand below rows.
use Rattle.std.specs.Prelude.{◌≡◌, ◌≢◌, ◌⊎◌, ℕ, List, ◌∷◌, None, All}
use Rattle.std.specs.List.{Contains}
use Rattle.ct_word.specs.declared.values.Term.{Term}
use Rattle.ct_word.specs.declared.values.Term.TheVariants as term
use Rattle.ct_word.specs.declared.values.CRow.{CRow}
use Rattle.ct_word.specs.Stands.{TermBelow}
use Rattle.ct_condition.specs.Rows.{cell_for}
use Rattle.ct_condition.specs.Terms.{TermsFrom, BelowSome}

-- a term stands below a row: below its condition or below one of its cells
abbrev pub TermOfRow : List ℕ → CRow → Term → Type 0
TermOfRow words r t = BelowSome words (r.cond ∷ r.cells) t

-- below one of these rows
pub record TermOfRows (words : List ℕ) (rs : List CRow) (t : Term) : Type 0 where
  pub row : CRow
  pub among : Contains rs row
  pub below : TermOfRow words row t

-- each term below a row is one of these
abbrev pub RowFrom : List ℕ → (Term → Type 0) → CRow → Type 0
RowFrom words source r = All (λ p. TermsFrom words p source) (r.cond ∷ r.cells)

-- each term below one of these rows
abbrev pub RowsFrom : List ℕ → List CRow → (Term → Type 0) → Type 0
RowsFrom words rs source = All (RowFrom words source) rs

-- no column
abbrev pub IsNoColumn : Term → Type 0
IsNoColumn t = (k : ℕ) → t ≢ term.Column k

-- a term below a condition with the cells put for its columns: below one of the cells, or below the condition, and no cell is put for it
abbrev pub IsPlaced : List ℕ → ℕ → List ℕ → Term → Type 0
IsPlaced words cond cells t = BelowSome words cells t ⊎ (TermBelow words cond t × (cell_for cells t ≡ None))
