-- How many words a statement makes at most.
use Rattle.std.specs.Prelude.{◌≡◌, ◌≤◌, ◌+◌, ◌||◌, ℕ, Bool, true, List, [], length, take, Some, Ok, if◌then◌else◌}
use Rattle.ct_word.specs.Change.{PlainCommit}
use Rattle.ct_word.specs.Reading.{commits_of}
use Rattle.ct_word.specs.StandsFor.{StandsFor}
use Rattle.ct_query.specs.Bounds.{bound, change_words, applying_words}
use Rattle.ct_query.specs.Patterns.{count}
use Rattle.ct_query.specs.Plain as plain
use Rattle.ct_query.specs.Plain.{PlainAction, PlainStatement}
use Rattle.ct_query.specs.Schema.{schema}
use Rattle.ct_condition.specs.Writes.{charge}
use Rattle.ct_parse.specs.declared.tree.Statement.{Statement}
use Rattle.ct_resolve.specs.Statements.{resolved}
use Rattle.ct_statement.specs.Making.{widths_in}
use Rattle.ct_statement.specs.Sources.{is_assertion}
use Rattle.ct_table.specs.Snapshot.{commits_to}
use Rattle.ct_transcript.specs.declared.reply.Reply.{Reply}
use Rattle.ct_transaction.specs.Answers.{GoesOn, is_full, is_unasked}
use Rattle.ct_transaction.specs.Seeing.{Sees, Asks}
use Rattle.ct_transaction.specs.State.{SessionState, own_actions}

-- a bound on the words of a text in a state: that of what it asks for at a version that it sees, by the counts of all rows of
-- the run's history and by the columns that each table has at that version; or none at all, for a text that makes no word
pub data HasBound (H : List PlainCommit) (s : SessionState) (x : List ℕ) : ℕ → Type 0 where
  by_version : (at : ℕ) (actions : List PlainAction) (st : PlainStatement) → Sees H s at actions → Asks H s x at actions st
      → HasBound H s x (bound (count H actions) (widths_in (schema (take at H) actions).tables) (own_actions s) st)
  no_words : HasBound H s x 0

-- by a statement the count of the words that its session made rises by at most a bound on its words, and by less where the
-- statement was refused since the log was full, however the words go on; the bound of one that was refused for a name is 0
abbrev pub IsBounded : ℕ → SessionState → List ℕ → List ℕ → Reply → ℕ → ℕ → Type 0
IsBounded N s words x r made made' =
    (W : List ℕ) → GoesOn N words W → (H : List PlainCommit) → StandsFor H W → (b : ℕ) × HasBound H s x b × (is_unasked r ≡ true → b ≡ 0) × (made' + charge (is_full r) ≤ made + b)

-- a statement made nothing in a state, or at most the bound of what it asks for at a version of these words that it sees, by
-- the counts of all commits of them and the columns of that version
pub data Makes (s : SessionState) (words : List ℕ) (st : Statement) (made made' : ℕ) : Type 0 where
  nothing : made' ≤ made → Makes s words st made made'
  within : (at : ℕ) (actions : List PlainAction) (asked : PlainStatement) → at ≤ length (commits_of words) → Sees (commits_of words) s at actions
      → resolved (schema (commits_to words at) actions) s.session s.fresh st ≡ Ok asked
      → made' ≤ made + bound (count (commits_of words) actions) (widths_in (schema (commits_to words at) actions).tables) (own_actions s) asked
      → Makes s words st made made'

-- the words of the step of an action: those of applying it, in a transaction and for an assertion; else none is made
abbrev pub step_words : Bool → (List ℕ → ℕ) → PlainAction → ℕ
step_words inside counts a = if inside || is_assertion a then applying_words counts a else 0

-- a statement with positions made at most its words, but those of a commit: of an action, those of its change and its step,
-- with the commit's own word left over
abbrev pub Performs : Bool → (List ℕ → ℕ) → (List ℕ → ℕ) → PlainStatement → ℕ → ℕ → Type 0
Performs inside counts widths (plain.Act a) made made' = made' + 1 ≤ made + change_words counts widths a + step_words inside counts a
Performs inside counts widths asked made made' = made' ≤ made + bound counts widths (Some []) asked
