-- The file of a table after a session's last statement.
use Rattle.std.specs.Prelude.{◌≡◌, ℕ, ◌+◌, ◌≤◌, List, [], length, None}
use mathlib.Core.List.{IsPrefix}
use Rattle.ct_word.specs.Change.{PlainCommit}
use Rattle.ct_word.specs.Reading.{commits_of}
use Rattle.ct_arena.specs.Seen.{Seen}
use Rattle.ct_query.specs.Fits.{columns_in}
use Rattle.ct_query.specs.Schema.{schema}
use Rattle.ct_rewrite.specs.History.{plain_history}
use Rattle.ct_session.specs.Exporting.{IsFileOf, IsWideTable, Later}
use Rattle.ct_session.specs.declared.exporting.ExportError.{ExportError}
use Rattle.ct_session.specs.declared.exporting.ExportError.TheVariants as fault
use Rattle.ct_transcript.specs.declared.transcript.Transcript.{Transcript}

-- what is true of a version that has all commits of words in which the pass had already made all of its own
pub record IsAfterAll (N : ℕ) (pass : Seen) (at : ℕ) (true_of : List PlainCommit → Type 0) : Type 0 where
  pub words : List ℕ
  pub front : IsPrefix words pass.words
  pub counted : 2 + pass.made ≤ length words
  pub newest : length (commits_of words) ≤ at
  pub later : Later N pass.words at true_of

-- why no table was exported after the last statement; want of memory may come at any time
abbrev pub WhyNone : ℕ → Seen → List ℕ → ExportError → Type 0
WhyNone N pass name (fault.UnknownTable at) = IsAfterAll N pass at (λ h. columns_in (schema h []).tables name ≡ None)
WhyNone N pass name (fault.TooWide row) = (at : ℕ) × IsAfterAll N pass at (λ h. IsWideTable pass.words h name row)
WhyNone N pass name fault.Memory = Unit {0}

-- bytes are a file of the table with this name after all commits of a transcript
abbrev pub IsTableFile : Transcript → List ℕ → List ℕ → Type 0
IsTableFile t name bytes = IsFileOf t.words (plain_history t.history) name bytes

-- why there is no file of the table after all commits
abbrev pub WhyNoTable : Transcript → List ℕ → ExportError → Type 0
WhyNoTable t name (fault.UnknownTable at) = columns_in (schema (plain_history t.history) []).tables name ≡ None
WhyNoTable t name (fault.TooWide row) = IsWideTable t.words (plain_history t.history) name row
WhyNoTable t name fault.Memory = Unit {0}
