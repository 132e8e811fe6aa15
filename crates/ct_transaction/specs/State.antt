-- What a session keeps between its statements.
use Rattle.std.specs.Prelude.{ℕ, ◌+◌, max, List, [], ◌∷◌, ◌++◌, Option, Some, None, option_map, sum_by}
use Rattle.ct_query.specs.Plain.{PlainAction}
use Rattle.ct_query.specs.Plain as plain
use Rattle.ct_query.specs.declared.action.Read.{Read}
use Rattle.ct_query.specs.Plain.{PlainStatement}
use Rattle.ct_query.specs.Reads.{reads_of, with_reads}
use Rattle.ct_statement.specs.Drawing.{drawn}

-- an open transaction: its base, its own actions, its reads
pub record Transaction : Type 0 where
  pub base : ℕ
  pub actions : List PlainAction
  pub reads : List Read

-- a session: its number, the greatest version that a reply carried, its count of fresh nulls,
-- the number of its commits, and its open transaction
pub record SessionState : Type 0 where
  pub session : ℕ
  pub seen : ℕ
  pub fresh : ℕ
  pub commits : ℕ
  pub transaction : Option Transaction

-- the state in which a session begins
abbrev pub beginning : ℕ → SessionState
beginning s = record { session = s; seen = 0; fresh = 0; commits = 0; transaction = None }

-- the actions of the open transaction, if one is open
abbrev pub own_actions : SessionState → Option (List PlainAction)
own_actions s = option_map (λ t. t.actions) s.transaction

-- the state after a reply that carries this version
abbrev pub carried : ℕ → SessionState → SessionState
carried at s = record s { seen = max s.seen at }

-- the state with this transaction
abbrev pub with_transaction : Option Transaction → SessionState → SessionState
with_transaction t s = record s { transaction = t }

-- the transaction as BEGIN opens it
abbrev pub opened : ℕ → Transaction
opened at = record { base = at; actions = []; reads = [] }

-- the action that a statement is, if it is one
abbrev pub actions_of : PlainStatement → List PlainAction
actions_of (plain.Act a) = a ∷ []
actions_of _ = []

-- an open transaction after a statement
abbrev pub extended_by : PlainStatement → Transaction → Transaction
extended_by st t = record { base = t.base; actions = t.actions ++ actions_of st; reads = with_reads t.reads (reads_of st) }

-- the state after a statement that extends the open transaction; outside one it stays
abbrev pub extended_at : Option Transaction → PlainStatement → SessionState → SessionState
extended_at None st s = s
extended_at (Some t) st s = record s { fresh = s.fresh + sum_by drawn (actions_of st); transaction = Some (extended_by st t) }

-- the state after a statement that extends the open transaction, if one is open
abbrev pub extended : PlainStatement → SessionState → SessionState
extended st s = extended_at s.transaction st s
