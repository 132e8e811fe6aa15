-- Which reply may follow a text in a state, and the state after it.
use Rattle.std.specs.Prelude.{◌≡◌, ℕ, ◌+◌, ◌-◌, ◌<◌, ◌≤◌, ◌⊎◌, List, [], ◌∷◌, ◌++◌, map, length, take, Some, None, All, IsSome, IsTrue}
use Rattle.ct_word.specs.Value.{World}
use Rattle.ct_word.specs.Sublist.{IsSublist}
use Rattle.ct_word.specs.Change.{PlainCommit}
use Rattle.ct_query.specs.Plain.{PlainQuery, PlainAction}
use Rattle.ct_query.specs.Plain as plain
use Rattle.ct_query.specs.declared.action.Ask.TheVariants as ask
use Rattle.ct_query.specs.Worlds.{admits}
use Rattle.ct_query.specs.Agrees.{Agrees}
use Rattle.ct_query.specs.Reads.{last}
use Rattle.ct_query.specs.Patterns.{pattern}
use Rattle.ct_rewrite.specs.declared.answer.PossibleRow.{PossibleRow}
use Rattle.ct_rewrite.specs.declared.answer.CertainRow.{CertainRow}
use Rattle.ct_transcript.specs.declared.reply.Answer.{Answer}
use Rattle.ct_transcript.specs.declared.reply.Reply.{Reply}
use Rattle.ct_transcript.specs.declared.reply.Reply.TheVariants as reply
use Rattle.ct_transcript.specs.Means.{IsAnswer, Means}
use Rattle.ct_transcript.specs.Possible.{PossibleRight}
use Rattle.ct_transcript.specs.Certain.{CertainRight}
use Rattle.ct_transaction.specs.State.{Transaction, SessionState, carried, with_transaction, opened, extended}
use Rattle.ct_statement.specs.Drawing.{drawn}
use Rattle.ct_transaction.specs.Seeing.{Sees, Asks, Orders, IsCommit}
use Rattle.ct_transaction.specs.LawfulRefusal.{LawfulRefusal}

-- H is the run's history, W the words of its log, N their capacity
module _ (H : List PlainCommit) (W : List ℕ) (N : ℕ) where
  -- BEGIN outside a transaction: it opens one, at a version from the one seen on
  pub record IsBegun (s : SessionState) (x : List ℕ) (at : ℕ) (next : SessionState) : Type 0 where
    pub none_open : s.transaction ≡ None
    pub asks : Orders H s x plain.Begin
    pub from_seen : s.seen ≤ at
    pub within : at ≤ length H
    pub next_is : next ≡ carried at (with_transaction (Some (opened at)) s)

  -- ROLLBACK in a transaction: it is given up
  pub record IsRolledBack (s : SessionState) (x : List ℕ) (next : SessionState) : Type 0 where
    pub is_open : IsSome s.transaction
    pub asks : Orders H s x plain.Rollback
    pub next_is : next ≡ with_transaction None s

  -- an action in a transaction, kept until COMMIT; some valuation is admitted after it
  pub record IsPending (s : SessionState) (x : List ℕ) (at plus : ℕ) (next : SessionState) : Type 0 where
    pub actions : List PlainAction
    pub action : PlainAction
    pub is_open : IsSome s.transaction
    pub sees : Sees H s at actions
    pub asks : Asks H s x at actions (plain.Act action)
    pub plus_is : plus ≡ length actions + 1
    pub leaves : (v : World) × IsTrue (admits v (take at H) (actions ++ action ∷ []))
    pub next_is : next ≡ carried at (extended (plain.Act action) s)

  -- an action outside a transaction, committed as commit m
  pub record IsCommittedAlone (s : SessionState) (x : List ℕ) (m : ℕ) (next : SessionState) : Type 0 where
    pub action : PlainAction
    pub commit : PlainCommit
    pub none_open : s.transaction ≡ None
    pub asks : Asks H s x (m - 1) [] (plain.Act action)
    pub later : s.seen < m
    pub stands : IsCommit H m commit
    pub session : commit.session ≡ s.session
    pub number : commit.number ≡ s.commits
    pub agrees : Agrees (take (m - 1) H) (action ∷ []) commit.changes
    pub next_is : next ≡ carried m (record s { fresh = s.fresh + drawn action; commits = s.commits + 1 })

  -- a transaction of at least one action, committed as commit m; what it read was not written since its base
  pub record IsCommittedWhole (s : SessionState) (x : List ℕ) (m : ℕ) (next : SessionState) : Type 0 where
    pub transaction : Transaction
    pub commit : PlainCommit
    pub is_open : s.transaction ≡ Some transaction
    pub asks : Orders H s x plain.Commit
    pub has_actions : 0 < length transaction.actions
    pub later : transaction.base < m
    pub unchanged : All (λ r. last (take (m - 1) H) r ≤ transaction.base) transaction.reads
    pub stands : IsCommit H m commit
    pub session : commit.session ≡ s.session
    pub number : commit.number ≡ s.commits
    pub agrees : Agrees (take (m - 1) H) transaction.actions commit.changes
    pub next_is : next ≡ carried m (with_transaction None (record s { commits = s.commits + 1 }))

  -- COMMIT of a transaction without actions
  pub record IsNothing (s : SessionState) (x : List ℕ) (at : ℕ) (next : SessionState) : Type 0 where
    pub transaction : Transaction
    pub is_open : s.transaction ≡ Some transaction
    pub asks : Orders H s x plain.Commit
    pub no_actions : transaction.actions ≡ []
    pub at_is : at ≡ transaction.base
    pub next_is : next ≡ carried at (with_transaction None s)

  -- a query, answered by a conditional table that means it at what the statement sees
  pub record IsRows (s : SessionState) (x : List ℕ) (at plus : ℕ) (answer : Answer) (next : SessionState) : Type 0 where
    pub actions : List PlainAction
    pub query : PlainQuery
    pub sees : Sees H s at actions
    pub asks : Asks H s x at actions (plain.Asks ask.Rows answer.columns query)
    pub plus_is : plus ≡ length actions
    pub formed : IsAnswer answer
    pub means : Means answer query (take at H) actions
    pub in_pattern : IsSublist (map (λ r. r.cells) answer.rows) (pattern (take at H) actions query)
    pub next_is : next ≡ carried at (extended (plain.Asks ask.Rows answer.columns query) s)

  -- a query, answered by its possible rows
  pub record IsPossible (s : SessionState) (x : List ℕ) (at plus : ℕ) (columns : List (List ℕ)) (list : List PossibleRow) (next : SessionState) : Type 0 where
    pub actions : List PlainAction
    pub query : PlainQuery
    pub sees : Sees H s at actions
    pub asks : Asks H s x at actions (plain.Asks ask.Possible columns query)
    pub plus_is : plus ≡ length actions
    pub right : PossibleRight list query (take at H) actions
    pub next_is : next ≡ carried at (extended (plain.Asks ask.Possible columns query) s)

  -- a query, answered by its certain tuples, each refuted over the words
  pub record IsCertain (s : SessionState) (x : List ℕ) (at plus : ℕ) (columns : List (List ℕ)) (list : List CertainRow) (next : SessionState) : Type 0 where
    pub actions : List PlainAction
    pub query : PlainQuery
    pub sees : Sees H s at actions
    pub asks : Asks H s x at actions (plain.Asks ask.Certain columns query)
    pub plus_is : plus ≡ length actions
    pub right : CertainRight list query (take at H) actions W
    pub next_is : next ≡ carried at (extended (plain.Asks ask.Certain columns query) s)

  -- which reply may follow
  abbrev pub LawfulReply : SessionState → List ℕ → Reply → SessionState → Type 0
  LawfulReply s x (reply.Begun at) next = IsBegun s x at next
  LawfulReply s x reply.RolledBack next = IsRolledBack s x next
  LawfulReply s x (reply.Pending at plus) next = IsPending s x at plus next
  LawfulReply s x (reply.Committed m) next = IsCommittedAlone s x m next ⊎ IsCommittedWhole s x m next
  LawfulReply s x (reply.Nothing at) next = IsNothing s x at next
  LawfulReply s x (reply.Rows at plus answer) next = IsRows s x at plus answer next
  LawfulReply s x (reply.Possible at plus columns list) next = IsPossible s x at plus columns list next
  LawfulReply s x (reply.Certain at plus columns list) next = IsCertain s x at plus columns list next
  LawfulReply s x (reply.Refused at why) next = LawfulRefusal H W N s x at why next
