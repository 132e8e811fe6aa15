-- The questions whether the rows of a table are possible.
use Rattle.std.specs.Prelude.{ℕ, List, All}
use Rattle.std.specs.List.{AllZip}
use mathlib.Core.List.{IsPrefix}
use Rattle.ct_word.specs.declared.values.CRow.{CRow}
use Rattle.ct_condition.specs.Terms.{BelowEither, TermsFrom}
use Rattle.ct_certain.specs.Answered.{AreOf, Asks}
use Rattle.ct_certain.specs.Possible.{is_shown}

-- over earlier words, which the words now begin with, there is a row; a root over the words now is the place of a condition below
-- which no column stands, which holds exactly where the global condition and the row's hold, and below which stands nothing else
pub record IsRowRoot (old now : List ℕ) (global : ℕ) (r : CRow) (root : ℕ) : Type 0 where
  pub grown : IsPrefix old now
  pub row : AreOf old global r
  pub asks : Asks now root (is_shown old global r)
  pub terms : TermsFrom now root (BelowEither old global r.cond)

-- such a root for each row, in their order
abbrev pub AreRowRoots : List ℕ → List ℕ → ℕ → List CRow → List ℕ → Type 0
AreRowRoots old now global rs roots = AllZip (IsRowRoot old now global) rs roots
