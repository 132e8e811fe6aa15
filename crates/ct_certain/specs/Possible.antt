-- When a list of possible rows is right: those that a table has at some valuation of the global condition.
use Rattle.std.specs.Prelude.{◌≡◌, ℕ, Bool, false, ◌&&◌, List, [], ◌∷◌, Option, Some, None, map, IsTrue}
use Rattle.ct_word.specs.declared.values.CRow.{CRow}
use Rattle.ct_word.specs.Value.{World}
use Rattle.ct_word.specs.Condition.{holds_at}
use Rattle.ct_word.specs.Reading.{condition_at, term_at}
use Rattle.ct_rewrite.specs.declared.answer.PossibleRow.{PossibleRow}
use Rattle.ct_rewrite.specs.Tidy.{IsTidy}

-- whether the global condition and the condition of a row hold
abbrev pub is_shown : List ℕ → ℕ → CRow → World → Bool
is_shown words global r v = holds_at v (condition_at words global) && holds_at v (condition_at words r.cond)

-- the cells of a row, with a world
abbrev pub shown_row : List ℕ → CRow → World → PossibleRow
shown_row words r v = record { cells = map (term_at words) r.cells; world = v }

-- what is listed of a row, with the world that was found for it, if one was
abbrev pub listed : List ℕ → CRow → Option World → List PossibleRow
listed words r (Some v) = shown_row words r v ∷ []
listed words r None = []

-- exactly the rows that are shown at some valuation, in their order, each with a tidy world that shows it
pub data ListsPossible (words : List ℕ) (global : ℕ) : List CRow → List PossibleRow → Type 0 where
  ended : ListsPossible words global [] []
  left_out : {r : CRow} {rs : List CRow} {list : List PossibleRow} → ((v : World) → is_shown words global r v ≡ false)
      → ListsPossible words global rs list → ListsPossible words global (r ∷ rs) list
  taken : {r : CRow} {rs : List CRow} {list : List PossibleRow} (v : World) → IsTidy v → IsTrue (is_shown words global r v)
      → ListsPossible words global rs list → ListsPossible words global (r ∷ rs) (shown_row words r v ∷ list)
