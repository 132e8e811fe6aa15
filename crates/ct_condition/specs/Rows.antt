-- Conditions with the cells of a row put for their columns.
use Rattle.std.specs.Prelude.{◌≡◌, ℕ, ◌+◌, List, ◌++◌, map, length, drop, Option, None, slice_get, is_some, if◌then◌else◌}
use Rattle.ct_word.specs.declared.values.Value.{Value}
use Rattle.ct_word.specs.declared.values.Term.{Term}
use Rattle.ct_word.specs.declared.values.Term.TheVariants as term
use Rattle.ct_word.specs.Value.{World, at}
use Rattle.ct_word.specs.Condition.{Condition, holds}
use Rattle.ct_word.specs.Reading.{term_at}
use Rattle.ct_query.specs.Bounds.{literal_words, column_words, over_equalities, ops}
use Rattle.ct_condition.specs.Places.{has_place}
use Rattle.ct_condition.specs.Truth.{Truth}

-- the cell for a column, none for another term and past the cells' end
abbrev pub cell_for : List ℕ → Term → Option ℕ
cell_for cells (term.Column k) = slice_get cells k
cell_for cells _ = None

-- the values of the cells, and past their end those of a row
abbrev pub values_on : List ℕ → List ℕ → World → List Value → List Value
values_on words cells v row = map (at v row) (map (term_at words) cells) ++ drop (length cells) row

-- the truth of a condition with the cells put for its columns; a column past their end stays one
abbrev pub on_row : List ℕ → Condition → List ℕ → Truth
on_row words c cells = λ v row. holds v (values_on words cells v row) c

-- a place of the new words is worth what a term is with the cells, places of the old words, put for its columns
abbrev pub WorthOn : List ℕ → List ℕ → Term → List ℕ → ℕ → Type 0
WorthOn old new t cells place = (v : World) (row : List Value) → at v row (term_at new place) ≡ at v (values_on old cells v row) t

-- the words that a term is put by after these: none where a cell stands for it, or a place already
abbrev pub term_words : List ℕ → List ℕ → Term → ℕ
term_words words cells t =
    if is_some (cell_for cells t) then 0 else
    if has_place words t then 0 else literal_words t + column_words t

-- the words that the terms of a condition are put by, at most
abbrev pub new_words : List ℕ → List ℕ → Condition → ℕ
new_words words cells c = over_equalities (λ s t. term_words words cells s + term_words words cells t) c

-- the words that a condition is put by, at most: those of its terms, and one for each equality, Not and connective
abbrev pub words_on : List ℕ → List ℕ → Condition → ℕ
words_on words cells c = new_words words cells c + ops c
