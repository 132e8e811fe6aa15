-- Updates over places: cells with sets made on them, and the rows and terms of an update.
use Rattle.std.specs.Prelude.{◌≡◌, ◌⊎◌, ◌<◌, ℕ, List, [], ◌∷◌, ◌++◌, length, map, None, All, IsTrue}
use Rattle.std.specs.List.{filter}
use Rattle.ct_word.specs.declared.kinds.Class.TheVariants as class
use Rattle.ct_word.specs.declared.values.Term.{Term}
use Rattle.ct_word.specs.declared.values.Term.TheVariants as term
use Rattle.ct_word.specs.declared.values.CRow.{CRow}
use Rattle.ct_word.specs.Reading.{condition_at, term_at}
use Rattle.ct_word.specs.Sublist.{IsSublist}
use Rattle.ct_word.specs.Value.{same_cells}
use Rattle.ct_word.specs.WellFormed.{is_place_of}
use Rattle.ct_query.specs.Updates.{Sets, with_items, updated, with_updated}
use Rattle.ct_condition.specs.Rows.{cell_for}
use Rattle.ct_condition.specs.Terms.{BelowSome}
use Rattle.ct_operators.specs.Building.{Builds}
use Rattle.ct_operators.specs.Merging.{AreGathered, is_possible}
use Rattle.ct_operators.specs.Placing.{place_on}
use Rattle.ct_operators.specs.Tables.{cells_of, firsts, value_of_rows}
use Rattle.ct_operators.specs.Terms.{TermOfRows, IsNoColumn}

-- sets whose terms are given by their places
abbrev pub sets_at : List ℕ → List (ℕ × ℕ) → Sets
sets_at words sets = map (λ s. (s.0, term_at words s.1)) sets

-- cells given by their places, with the sets made on them
abbrev pub updated_places : List ℕ → List (ℕ × ℕ) → List ℕ → List ℕ
updated_places words sets cells = with_items (map (λ s. (s.0, place_on words cells s.1)) sets) cells

-- the places that an update names: its condition, and the terms of its sets
abbrev pub places_named : List (ℕ × ℕ) → ℕ → List ℕ
places_named sets cond = cond ∷ map (λ s. s.1) sets

-- a term below cells with sets made on them: below one of the cells, or one of a set, and no cell is put for it
abbrev pub IsSetOn : List ℕ → List (ℕ × ℕ) → List ℕ → Term → Type 0
IsSetOn words sets cells t = BelowSome words cells t ⊎ (BelowSome words (map (λ s. s.1) sets) t × (cell_for cells t ≡ None))

-- an update is one of rows of this many cells
pub record FitsUpdate (words : List ℕ) (width : ℕ) (sets : List (ℕ × ℕ)) (cond : ℕ) : Type 0 where
  pub positions : All (λ s. s.0 < width) sets
  pub terms : All (λ s. IsTrue (is_place_of words class.Term s.1)) sets
  pub condition : IsTrue (is_place_of words class.Cond cond)
  pub columns : (k : ℕ) → BelowSome words (places_named sets cond) (term.Column k) → k < width

-- the terms that come below rows by an update, beside those of the rows
abbrev pub TermOfUpdate : List ℕ → List CRow → List (ℕ × ℕ) → ℕ → Term → Type 0
TermOfUpdate words rows sets cond t = TermOfRows words rows t ⊎ (BelowSome words (places_named sets cond) t × IsNoColumn t)

-- two rows for each of others: where the condition does not hold for it, and with the sets where it does
abbrev pub Updates : List ℕ → List ℕ → ℕ → List (ℕ × ℕ) → ℕ → List CRow → List CRow → Type 0
Updates old now width sets cond rows out =
    Builds old now width (with_updated (sets_at old sets) (cells_of old rows)) (λ v. updated v (condition_at old cond) (sets_at old sets) (value_of_rows old v rows)) (TermOfUpdate old rows sets cond) out

-- the two rows that come of one under two conditions
abbrev pub halves_of : List ℕ → List (ℕ × ℕ) → CRow → ℕ × ℕ → List CRow
halves_of words sets r conds = record { cells = r.cells; cond = conds.0 } ∷ record { cells = updated_places words sets r.cells; cond = conds.1 } ∷ []

-- the two of each, under the two conditions at its place
abbrev pub all_halves : List ℕ → List (ℕ × ℕ) → List CRow → List (ℕ × ℕ) → List CRow
all_halves words sets (r ∷ rs) (c ∷ cs) = halves_of words sets r c ++ all_halves words sets rs cs
all_halves words sets _ _ = []

-- of each row there are two conditions, under which the two rows come of it
pub record AreSplit (old now : List ℕ) (width : ℕ) (sets : List (ℕ × ℕ)) (cond : ℕ) (rows : List CRow) (conds : List (ℕ × ℕ)) : Type 0 where
  pub long : length conds ≡ length rows
  pub updates : Updates old now width sets cond rows (all_halves old sets rows conds)

-- rows were put in, each left out where its condition is the word false
abbrev pub PutsIn : List ℕ → List ℕ → ℕ → List CRow → List CRow → List CRow → Type 0
PutsIn old new width rs before after = (done : List CRow) → AreGathered old width done before → AreGathered new width (done ++ filter is_possible rs) after

-- rows are gathered of the two for each of others: their cells are, in order, among those of the two that are not under the word false, each where it stands first
pub record AreOfHalves (old new : List ℕ) (width : ℕ) (sets : List (ℕ × ℕ)) (cond : ℕ) (rows out : List CRow) : Type 0 where
  pub halves : List CRow
  pub updates : Updates old new width sets cond rows halves
  pub order : IsSublist (cells_of new out) (firsts same_cells (cells_of new (filter is_possible halves)))
