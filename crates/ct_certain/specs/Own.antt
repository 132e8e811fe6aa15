-- Which nulls stand below a row and the global condition.
use Rattle.std.specs.Prelude.{◌≡◌, ◌⊎◌, ℕ, false, List, [], ◌∷◌, Option, Some, None, IsTrue, All, map}
use Rattle.std.specs.List.{Contains}
use Rattle.ct_word.specs.declared.values.CRow.{CRow}
use Rattle.ct_word.specs.declared.values.Term.{Term}
use Rattle.ct_word.specs.declared.values.Term.TheVariants as term
use Rattle.ct_word.specs.Value.{World}
use Rattle.ct_word.specs.Reading.{term_at}
use Rattle.ct_word.specs.Stands.{TermBelow}
use Rattle.ct_operators.specs.Terms.{TermOfRows}
use Rattle.ct_rewrite.specs.declared.answer.PossibleRow.{PossibleRow}
use Rattle.ct_rewrite.specs.Tidy.{IsTidy}
use Rattle.ct_certain.specs.Possible.{is_shown}

-- a term stands below the global condition or below one of the rows
abbrev pub IsOfTable : List ℕ → ℕ → List CRow → Term → Type 0
IsOfTable words global rs t = TermBelow words global t ⊎ TermOfRows words rs t

-- each null of a world stands below the global condition or below the row
abbrev pub IsOwnWorld : List ℕ → ℕ → CRow → World → Type 0
IsOwnWorld words global r v = All (λ p. IsOfTable words global (r ∷ []) (term.Null p.0)) v

-- a tidy world shows a row, and has no null but its own
pub record IsShownBy (words : List ℕ) (global : ℕ) (r : CRow) (v : World) : Type 0 where
  pub tidy : IsTidy v
  pub shown : IsTrue (is_shown words global r v)
  pub own : IsOwnWorld words global r v

-- such a world, or no world shows the row
abbrev pub IsOwnAnswer : List ℕ → ℕ → CRow → Option World → Type 0
IsOwnAnswer words global r (Some v) = IsShownBy words global r v
IsOwnAnswer words global r None = (v : World) → is_shown words global r v ≡ false

-- a possible row is one of these, with a world that has no null but its own
pub record IsOwn (words : List ℕ) (global : ℕ) (rs : List CRow) (x : PossibleRow) : Type 0 where
  pub row : CRow
  pub among : Contains rs row
  pub cells : x.cells ≡ map (term_at words) row.cells
  pub nulls : IsOwnWorld words global row x.world
