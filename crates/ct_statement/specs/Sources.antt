-- The rows that an action takes from its query, and the condition that an assertion over a query or a key makes.
use Rattle.std.specs.Prelude.{◌≡◌, ℕ, Bool, true, false, List, [], ◌∷◌, ◌++◌, IsTrue}
use Rattle.ct_word.specs.declared.kinds.Class.TheVariants as class
use Rattle.ct_word.specs.declared.values.CRow.{CRow}
use Rattle.ct_word.specs.Change.{PlainCommit}
use Rattle.ct_word.specs.Reading.{condition_at}
use Rattle.ct_word.specs.Stands.{HasNoColumn}
use Rattle.ct_word.specs.WellFormed.{is_place_of}
use Rattle.ct_query.specs.Agrees.{HoldsWhereKept}
use Rattle.ct_query.specs.Plain.{PlainAction}
use Rattle.ct_query.specs.Plain as plain
use Rattle.ct_query.specs.Fits.{width}
use Rattle.ct_query.specs.Schema.{schema}
use Rattle.ct_query.specs.declared.action.Read.TheVariants as read
use Rattle.ct_condition.specs.Terms.{TermsFrom}
use Rattle.ct_table.specs.Denotes.{IsTermFor}
use Rattle.ct_statement.specs.Asking.{AnswersQuery}

-- whether the change of an action is all in its text: a new table, or rows that are written out
abbrev pub is_literal : PlainAction → Bool
is_literal (plain.Create name columns) = true
is_literal (plain.InsertRows name rs c) = true
is_literal (plain.InsertQuery name q) = false
is_literal (plain.Delete name c) = false
is_literal (plain.Update name sets c) = false
is_literal (plain.Assert c) = false
is_literal (plain.AssertQuery wanted q) = false
is_literal (plain.AssertKey name columns) = false

-- whether an action is an assertion: of a condition, or over a query or a key
abbrev pub is_assertion : PlainAction → Bool
is_assertion (plain.Create name columns) = false
is_assertion (plain.InsertRows name rs c) = false
is_assertion (plain.InsertQuery name q) = false
is_assertion (plain.Delete name c) = false
is_assertion (plain.Update name sets c) = false
is_assertion (plain.Assert c) = true
is_assertion (plain.AssertQuery wanted q) = true
is_assertion (plain.AssertKey name columns) = true

-- rows are one row without cells, under a condition that holds, at every valuation that is admitted, exactly where an assertion
-- keeps the database; no column stands below it, and its terms stand in what the assertion reads, or come with the actions
pub record AreAsserted (words : List ℕ) (h : List PlainCommit) (before : List PlainAction) (a : PlainAction) (rs : List CRow) : Type 0 where
  pub cond : ℕ
  pub one : rs ≡ record { cells = []; cond = cond } ∷ []
  pub place : IsTrue (is_place_of words class.Cond cond)
  pub plain : HasNoColumn words cond
  pub holds : HoldsWhereKept h before a (condition_at words cond)
  pub from : TermsFrom words cond (IsTermFor h (before ++ a ∷ []) read.Worlds)

-- rows are those that an action takes from its query, or the one of the condition that it makes; another action takes none
abbrev pub AreTakenFor : List ℕ → ℕ → List PlainCommit → List PlainAction → PlainAction → List CRow → Type 0
AreTakenFor words global h before (plain.InsertQuery name q) rs = AnswersQuery words global h before q (width (schema h before).tables q) rs
AreTakenFor words global h before (plain.AssertQuery wanted q) rs = AreAsserted words h before (plain.AssertQuery wanted q) rs
AreTakenFor words global h before (plain.AssertKey name columns) rs = AreAsserted words h before (plain.AssertKey name columns) rs
AreTakenFor words global h before a rs = rs ≡ []
