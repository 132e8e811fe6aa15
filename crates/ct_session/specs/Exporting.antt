-- What the export of a table does to a session, and what its file says.
use Rattle.std.specs.Prelude.{◌≡◌, ◌≤◌, ℕ, List, [], length, take, Some, None, IfSome}
use mathlib.Core.List.{IsPrefix}
use Rattle.ct_word.specs.declared.values.CRow.{CRow}
use Rattle.ct_word.specs.Value.{World}
use Rattle.ct_word.specs.Sublist.{IsSublist}
use Rattle.ct_word.specs.Change.{PlainCommit}
use Rattle.ct_word.specs.Reading.{commits_of}
use Rattle.ct_word.specs.StandsFor.{StandsFor}
use Rattle.ct_query.specs.Plain.{Table}
use Rattle.ct_query.specs.Database.{SameSet, tuples_of}
use Rattle.ct_query.specs.Fits.{columns_in}
use Rattle.ct_query.specs.Patterns.{pattern}
use Rattle.ct_query.specs.Schema.{schema}
use Rattle.ct_query.specs.Worlds.{world}
use Rattle.ct_operators.specs.Tables.{AreRows, cells_of, value_of_rows}
use Rattle.ct_table.specs.Snapshot.{commits_to}
use Rattle.ct_csv.specs.Exported.{IsExported, IsTooWide}
use Rattle.ct_transaction.{specs.Answers.GoesOn, specs.State.carried}
use Rattle.ct_session.{specs.Standing.{Standing, state_in}, specs.declared.exporting.ExportError.ExportError}
use Rattle.ct_session.specs.declared.exporting.ExportError.TheVariants as fault

-- an export leaves all of a session as it was, but that it has seen this version: its words may have gone on, by none of
-- its own
pub record HasLooked (old new : Standing) (at : ℕ) : Type 0 where
  pub longer : IsPrefix old.pass.words new.pass.words
  pub made : new.pass.made ≡ old.pass.made
  pub open_is : new.transaction ≡ old.transaction
  pub state : state_in new ≡ carried at (state_in old)

-- the version has all commits of the words before, and none past those after
pub record IsNow (old new : Standing) (at : ℕ) : Type 0 where
  pub from_seen : old.seen ≤ at
  pub newest : length (commits_of old.pass.words) ≤ at
  pub within : at ≤ length (commits_of new.pass.words)

-- rows over the words are the table with this name after a history: they are worth the same set at every valuation that it
-- admits, and their cells are, in order, a part of the table's pattern
pub record AreOfTable (words : List ℕ) (h : List PlainCommit) (name : List ℕ) (columns : List (List ℕ)) (rows : List CRow) : Type 0 where
  pub there : columns_in (schema h []).tables name ≡ Some columns
  pub are : AreRows words (length columns) rows
  pub worth : (v : World) → IfSome (world v h []) (λ w. SameSet (value_of_rows words v rows) (tuples_of w name))
  pub in_pattern : IsSublist (cells_of words rows) (pattern h [] (Table name))

-- bytes are a file of rows over the words, which are the table with this name after a history
pub record IsFileOf (words : List ℕ) (h : List PlainCommit) (name bytes : List ℕ) : Type 0 where
  pub columns : List (List ℕ)
  pub rows : List CRow
  pub of_table : AreOfTable words h name columns rows
  pub exported : IsExported words columns rows bytes

-- a row of the table with this name after a history has too wide a condition for a file
pub record IsWideTable (words : List ℕ) (h : List PlainCommit) (name : List ℕ) (row : ℕ) : Type 0 where
  pub columns : List (List ℕ)
  pub rows : List CRow
  pub of_table : AreOfTable words h name columns rows
  pub wide : IsTooWide words rows row

-- why there is no file of the table with this name after the first commits of the words
abbrev pub WhyNoFile : List ℕ → ℕ → List ℕ → ExportError → Type 0
WhyNoFile words at name (fault.UnknownTable version) = (version ≡ at) × (columns_in (schema (commits_to words at) []).tables name ≡ None)
WhyNoFile words at name (fault.TooWide row) = IsWideTable words (commits_to words at) name row
WhyNoFile words at name fault.Memory = Unit {0}

-- what is true of the first commits of the words is so of those of every history, however the words go on
abbrev pub Later : ℕ → List ℕ → ℕ → (List PlainCommit → Type 0) → Type 0
Later N words at true_of = (W : List ℕ) → GoesOn N words W → (H : List PlainCommit) → StandsFor H W → true_of (take at H)

-- the session has exported the table with this name, as it is after this many commits
pub record HasExported (N : ℕ) (old new : Standing) (name : List ℕ) (at : ℕ) (bytes : List ℕ) : Type 0 where
  pub looked : HasLooked old new at
  pub now : IsNow old new at
  pub file : Later N new.pass.words at (λ h. IsFileOf new.pass.words h name bytes)

-- why it has not; memory may run out at any time, and what was looked at then is a version of the words
abbrev pub HasNotExported : ℕ → Standing → Standing → List ℕ → ExportError → Type 0
HasNotExported N old new name (fault.UnknownTable at) =
    HasLooked old new at × IsNow old new at × Later N new.pass.words at (λ h. columns_in (schema h []).tables name ≡ None)
HasNotExported N old new name (fault.TooWide row) =
    (at : ℕ) × HasLooked old new at × IsNow old new at × Later N new.pass.words at (λ h. IsWideTable new.pass.words h name row)
HasNotExported N old new name fault.Memory = (at : ℕ) × (at ≤ length (commits_of new.pass.words)) × HasLooked old new at
