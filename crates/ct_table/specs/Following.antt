-- One step more: what comes after a history and further actions, where another history and actions say it; which actions assert.
use Rattle.std.specs.Prelude.{◌≡◌, ℕ, List, ◌++◌, Option, option_and_then}
use Rattle.ct_word.specs.declared.values.Term.{Term}
use Rattle.ct_word.specs.Value.{World}
use Rattle.ct_word.specs.Sublist.{IsSublist}
use Rattle.ct_word.specs.Change.{PlainCommit}
use Rattle.ct_query.specs.declared.schema.Heading.{Heading}
use Rattle.ct_query.specs.declared.action.Read.{Read}
use Rattle.ct_query.specs.Plain.{PlainAction}
use Rattle.ct_query.specs.Plain as plain
use Rattle.ct_query.specs.Database.{Database}
use Rattle.ct_query.specs.Worlds.{world}
use Rattle.ct_query.specs.Patterns.{patterns}
use Rattle.ct_query.specs.Schema.{schema}
use Rattle.ct_table.specs.Denotes.{IsTermFor}

-- a history and actions follow others by one step, which creates these tables; patterns and terms only grow
pub record Follows (h : List PlainCommit) (actions : List PlainAction) (h' : List PlainCommit) (actions' : List PlainAction)
    (step : World → Database → Option Database) (more : List Heading) : Type 0 where
  pub worlds : (v : World) → world v h' actions' ≡ option_and_then (step v) (world v h actions)
  pub headings : (schema h' actions').tables ≡ (schema h actions).tables ++ more
  pub patterns : (n : List ℕ) → IsSublist (patterns h actions n) (patterns h' actions' n)
  pub terms : (r : Read) (t : Term) → IsTermFor h actions r t → IsTermFor h' actions' r t

-- an action asserts: it leaves the tables as they are, and admits fewer valuations
abbrev pub Asserts : PlainAction → Type 0
Asserts (plain.Assert c) = Unit {0}
Asserts (plain.AssertQuery wanted q) = Unit {0}
Asserts (plain.AssertKey name columns) = Unit {0}
Asserts _ = ⊥
