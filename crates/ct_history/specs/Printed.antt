-- Changes as they are printed: with positions of conditions for their places.
use Rattle.std.specs.Prelude.{ℕ, List, [], ◌∷◌, map, length, take, drop, get_or}
use Rattle.ct_word.specs.declared.values.CRow.{CRow}
use Rattle.ct_word.specs.Reading.{term_at}
use Rattle.ct_rewrite.specs.declared.answer.AnswerRow.{AnswerRow}
use Rattle.ct_rewrite.specs.declared.history.Change.{Change}
use Rattle.ct_rewrite.specs.declared.history.Change.TheVariants as change
use Rattle.ct_history.specs.declared.written.Written.{Written}
use Rattle.ct_history.specs.declared.written.Written.TheVariants as written
use Rattle.ct_history.specs.Written.{plain_set}

-- the places of the conditions of a change, in order
abbrev pub conds_of : Written → List ℕ
conds_of (written.Create name columns) = []
conds_of (written.Insert name rows) = map (λ r. r.cond) rows
conds_of (written.Delete name cond) = cond ∷ []
conds_of (written.Update name sets cond) = cond ∷ []
conds_of (written.Assert cond) = cond ∷ []

-- a row of terms at a position
abbrev pub row_with : List ℕ → CRow → ℕ → AnswerRow
row_with words r k = record { cells = map (term_at words) r.cells; cond = k }

-- rows at these positions
abbrev pub rows_with : List ℕ → List CRow → List ℕ → List AnswerRow
rows_with words [] ks = []
rows_with words (r ∷ rs) [] = []
rows_with words (r ∷ rs) (k ∷ ks) = row_with words r k ∷ rows_with words rs ks

-- a change with these positions for the places of its conditions
abbrev pub change_with : List ℕ → Written → List ℕ → Change
change_with words (written.Create name columns) ks = change.Create name columns
change_with words (written.Insert name rows) ks = change.Insert name (rows_with words rows ks)
change_with words (written.Delete name cond) ks = change.Delete name (get_or ks 0 0)
change_with words (written.Update name sets cond) ks = change.Update name (map (plain_set words) sets) (get_or ks 0 0)
change_with words (written.Assert cond) ks = change.Assert (get_or ks 0 0)

-- changes with these positions, each taking as many as it has conditions
abbrev pub changes_with : List ℕ → List Written → List ℕ → List Change
changes_with words [] ks = []
changes_with words (x ∷ xs) ks =
    change_with words x (take (length (conds_of x)) ks) ∷ changes_with words xs (drop (length (conds_of x)) ks)
