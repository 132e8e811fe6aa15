-- What a statement sees: a version, and the actions of its transaction after it.
use Rattle.std.specs.Prelude.{◌≤◌, ◌^◌, ℕ, List, length, map, IfSome, All}
use Rattle.std.specs.Arc.{arc_value}
use Rattle.ct_word.specs.Change.{PlainCommit}
use Rattle.ct_word.specs.Reading.{commits_of}
use Rattle.ct_query.specs.Plain.{PlainAction}
use Rattle.ct_query.specs.Schema.{created_by_action}
use Rattle.ct_query.specs.Views.{action_of}
use Rattle.ct_resolve.specs.Writing.{WritesAction}
use Rattle.ct_table.specs.Denotes.{Denotes}
use Rattle.ct_table.specs.Snapshot.{commits_to, IsGlobal, IsKeptWorld}
use Rattle.ct_statement.specs.declared.sight.Sight.{Sight}

-- the actions of the transaction so far
abbrev pub actions_before : Sight → List PlainAction
actions_before s = map action_of s.actions.items

-- the commits of the version
abbrev pub history_of : List ℕ → Sight → List PlainCommit
history_of words s = commits_to words s.version

-- a table that an action creates has no more columns than a word can tell apart
abbrev pub IsNarrow : PlainAction → Type 0
IsNarrow a = IfSome (created_by_action a) (λ t. length t.columns ≤ 2 ^ 28)

-- the tables, the global condition and the kept world are those of the version and the actions after it, which can be
-- written, and whose tables have no more columns than a word can tell apart
pub record IsSight (words : List ℕ) (s : Sight) : Type 0 where
  pub within : s.version ≤ length (commits_of words)
  pub denotes : Denotes words (history_of words s) (actions_before s) s.tables
  pub condition : IsGlobal words (history_of words s) (actions_before s) s.global
  pub world : IsKeptWorld words (history_of words s) (actions_before s) (arc_value s.kept)
  pub written : All WritesAction (actions_before s)
  pub narrow : All IsNarrow (actions_before s)
