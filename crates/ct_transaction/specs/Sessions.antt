-- What a session keeps, and what is true of it between its statements.
use Rattle.std.specs.Prelude.{◌≡◌, ◌≤◌, ℕ, List, [], length, Option, Some, None, option_map, IfSome, IsTrue, All}
use Rattle.std.specs.List.{Contains, list_all}
use Rattle.ct_word.specs.declared.kinds.Class.TheVariants as class
use Rattle.ct_word.specs.Reading.{commits_of}
use Rattle.ct_word.specs.WellFormed.{is_place_of}
use Rattle.ct_word.specs.Writable.{is_writable}
use Rattle.ct_query.specs.Plain.{PlainAction}
use Rattle.ct_query.specs.Agrees.{Agrees}
use Rattle.ct_query.specs.Fits.{FitAfter}
use Rattle.ct_query.specs.Frame.{reads_of_actions}
use Rattle.ct_query.specs.Patterns.{count}
use Rattle.ct_arena.specs.Seen.{Seen}
use Rattle.ct_statement.specs.Making.{AreLight}
use Rattle.ct_statement.specs.Proposals.{listed}
use Rattle.ct_statement.specs.Sight.{actions_before, history_of, IsSight}
use Rattle.ct_transaction.specs.declared.state.Open.{Open}
use Rattle.ct_transaction.specs.State.{Transaction, SessionState}

-- the transaction that is open
abbrev pub transaction_of : Open → Transaction
transaction_of o = record { base = o.sight.version; actions = actions_before o.sight; reads = o.reads }

-- a session's state
abbrev pub state_of : Seen → ℕ → ℕ → Option Open → SessionState
state_of pass seen fresh open' =
    record { session = pass.session; seen = seen; fresh = fresh; commits = pass.mine; transaction = option_map transaction_of open' }

-- a change list that was begun has a place, and without one there were no actions
abbrev pub IsBegunList : List ℕ → Option ℕ → List PlainAction → Type 0
IsBegunList words None actions = actions ≡ []
IsBegunList words (Some place) actions = IsTrue (is_place_of words class.ChangeList place)

-- what is true of an open transaction: it sees its base with its own actions done, its changes agree with these and are light
-- for them, fit and can be written, and what its actions read is among its reads
pub record IsOpen (words : List ℕ) (o : Open) : Type 0 where
  pub sight : IsSight words o.sight
  pub list : IsBegunList words o.changes (actions_before o.sight)
  pub agrees : Agrees (history_of words o.sight) (actions_before o.sight) (listed words o.changes)
  pub light : AreLight (count (history_of words o.sight) (actions_before o.sight)) (actions_before o.sight) (listed words o.changes)
  pub fits : FitAfter (history_of words o.sight) (listed words o.changes)
  pub writable : IsTrue (list_all is_writable (listed words o.changes))
  pub reads : All (Contains o.reads) (reads_of_actions (actions_before o.sight))

-- what is true of a session: it has seen no version past the commits of its words
pub record IsSession (words : List ℕ) (seen : ℕ) (open' : Option Open) : Type 0 where
  pub seen_is : seen ≤ length (commits_of words)
  pub open_is : IfSome open' (IsOpen words)
