-- What stays the same when a history grows by commits that write nothing of what is read.
use Rattle.std.specs.Prelude.{◌≡◌, ◌≤◌, ℕ, Bool, List, ◌++◌, length, map, flat_map, filter_map, option_map, IsSome, All}
use Rattle.std.specs.List.{Contains}
use Rattle.ct_word.specs.declared.values.Value.{Value}
use Rattle.ct_word.specs.Value.{World}
use Rattle.ct_word.specs.Change.{PlainChange, PlainCommit}
use Rattle.ct_query.specs.Plain.{PlainQuery, PlainAction}
use Rattle.ct_query.specs.declared.action.Read.{Read}
use Rattle.ct_query.specs.declared.action.Read.TheVariants as read
use Rattle.ct_query.specs.Rows.{rows}
use Rattle.ct_query.specs.Worlds.{world, admits}
use Rattle.ct_query.specs.Schema.{schema, created_by_change}
use Rattle.ct_query.specs.Patterns.{pattern}
use Rattle.ct_query.specs.Reads.{action_reads, last}
use Rattle.ct_query.specs.Fits.{columns_in}
use Rattle.ct_query.specs.Agrees.{Agrees}
use Rattle.ct_query.specs.Shows.{ShowsAt}

-- the last commit that writes each of these is one of the history, and none of the later ones
abbrev pub AreOlder : List PlainCommit → List PlainCommit → List Read → Type 0
AreOlder h later reads = All (λ r. last (h ++ later) r ≤ length h) reads

-- what actions read
abbrev pub reads_of_actions : List PlainAction → List Read
reads_of_actions actions = flat_map action_reads actions

-- actions that read nothing of what the later commits write find, after the history and after the later commits too, the
-- columns of the tables that they read, create or name; what agrees with them agrees there, and they admit the same where they read the worlds
pub record SameForActions (h later : List PlainCommit) (actions : List PlainAction) : Type 0 where
  pub found : (t : List ℕ) → Contains (reads_of_actions actions) (read.Table t)
      → columns_in (schema (h ++ later) actions).tables t ≡ columns_in (schema h actions).tables t
  pub named : (t : List ℕ) → IsSome (columns_in (schema h actions).tables t)
      → columns_in (schema (h ++ later) actions).tables t ≡ columns_in (schema h actions).tables t
  pub admitted : Contains (reads_of_actions actions) read.Worlds → (v : World) → admits v (h ++ later) actions ≡ admits v h actions
  pub agreed : (changes : List PlainChange) → Agrees h actions changes → Agrees (h ++ later) actions changes

-- the names that changes create, as reads
abbrev pub creates : List PlainChange → List Read
creates xs = map (λ t. read.Table t.name) (filter_map created_by_change xs)

-- a query after the actions that reads nothing of them either: the same valuations, tuples and pattern, and the same answers
pub record SameForQuery (h later : List PlainCommit) (actions : List PlainAction) (q : PlainQuery) : Type 0 where
  pub admitted : (v : World) → admits v (h ++ later) actions ≡ admits v h actions
  pub tuples : (v : World) → option_map (rows v q) (world v (h ++ later) actions) ≡ option_map (rows v q) (world v h actions)
  pub patterns : pattern (h ++ later) actions q ≡ pattern h actions q
  pub shown : (allowed : Bool) (shown : List (List Value)) (v : World)
      → ShowsAt allowed shown q h actions v → ShowsAt allowed shown q (h ++ later) actions v
