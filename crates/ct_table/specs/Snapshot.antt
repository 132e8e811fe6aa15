-- What a snapshot holds: tables, a global condition and a kept world that denote the first commits of the words.
use Rattle.std.specs.Prelude.{◌≡◌, ◌≤◌, ◌<◌, ◌^◌, ℕ, List, [], length, take, IsTrue, All}
use Rattle.ct_word.specs.declared.kinds.Class.TheVariants as class
use Rattle.ct_word.specs.declared.values.Value.{Value}
use Rattle.ct_word.specs.declared.values.Value.TheVariants as val
use Rattle.ct_word.specs.declared.values.Term.TheVariants as term
use Rattle.ct_word.specs.Value.{World}
use Rattle.ct_word.specs.Condition.{holds_at}
use Rattle.ct_word.specs.Change.{PlainCommit}
use Rattle.ct_word.specs.WellFormed.{is_place_of}
use Rattle.ct_word.specs.Reading.{IsTerm, condition_at, commits_of}
use Rattle.ct_word.specs.Stands.{StandsAt, HasNoColumn}
use Rattle.ct_query.specs.declared.action.Read.TheVariants as read
use Rattle.ct_query.specs.Plain.{PlainAction}
use Rattle.ct_query.specs.Worlds.{admits}
use Rattle.ct_condition.specs.Terms.{TermsFrom}
use Rattle.ct_table.specs.Denotes.{TableView, IsTermFor, Denotes}

-- the condition at a place holds exactly where a history and further actions admit; no column stands below it, and the
-- terms below it stand in assertions, or come with the actions
pub record IsGlobal (words : List ℕ) (h : List PlainCommit) (actions : List PlainAction) (global : ℕ) : Type 0 where
  pub place : IsTrue (is_place_of words class.Cond global)
  pub holds : (v : World) → holds_at v (condition_at words global) ≡ admits v h actions
  pub plain : HasNoColumn words global
  pub from : TermsFrom words global (IsTermFor h actions read.Worlds)

-- a value is `@k` with a k that a word has room for, or a constant that has a place
pub data IsKeptValue (words : List ℕ) : Value → Type 0 where
  other : (k : ℕ) → k < 2 ^ 28 → IsKeptValue words (val.Other k)
  constant : (x : Value) (place : ℕ) → StandsAt words place (IsTerm (term.Value x)) → IsKeptValue words x

-- a world is admitted by a history and further actions, and its values are such
pub record IsKeptWorld (words : List ℕ) (h : List PlainCommit) (actions : List PlainAction) (kept : World) : Type 0 where
  pub admitted : IsTrue (admits kept h actions)
  pub values : All (λ p. IsKeptValue words p.1) kept

-- the commits of the words up to a version
abbrev pub commits_to : List ℕ → ℕ → List PlainCommit
commits_to words version = take version (commits_of words)

-- tables, the place of a global condition and a kept world are those of a version
pub record IsSnapshot (words : List ℕ) (version : ℕ) (db : List TableView) (global : ℕ) (kept : World) : Type 0 where
  pub within : version ≤ length (commits_of words)
  pub denotes : Denotes words (commits_to words version) [] db
  pub condition : IsGlobal words (commits_to words version) [] global
  pub world : IsKeptWorld words (commits_to words version) [] kept
