-- What a statement sees, and what a text asks for there.
use Rattle.std.specs.Prelude.{◌≡◌, ℕ, ◌≤◌, ◌-◌, ◌<◌, List, [], length, take, Option, Some, None, Ok, slice_get}
use Rattle.ct_word.specs.Change.{PlainCommit}
use Rattle.ct_query.specs.Plain.{PlainAction, PlainStatement}
use Rattle.ct_query.specs.Schema.{schema}
use Rattle.ct_parse.specs.declared.tree.Statement.{Statement}
use Rattle.ct_resolve.specs.Found.{Found}
use Rattle.ct_resolve.specs.Statements.{resolved}
use Rattle.ct_transaction.specs.Statements.{ReadsAs}
use Rattle.ct_transaction.specs.State.{Transaction, SessionState}

-- H is the run's history
module _ (H : List PlainCommit) where
  -- the version and the actions that a statement sees: in a transaction its base and its own actions,
  -- outside one a version from the one seen on, and no actions
  abbrev pub SeesIn : Option Transaction → SessionState → ℕ → List PlainAction → Type 0
  SeesIn (Some t) s at actions = (at ≡ t.base) × (actions ≡ t.actions)
  SeesIn None s at actions = (s.seen ≤ at) × (at ≤ length H) × (actions ≡ [])

  -- the version and the actions that a statement sees in a state
  abbrev pub Sees : SessionState → ℕ → List PlainAction → Type 0
  Sees s at actions = SeesIn s.transaction s at actions

  -- a text is read as a statement that resolves to this, at a version and after these actions
  pub record ResolvesTo (s : SessionState) (x : List ℕ) (at : ℕ) (actions : List PlainAction) (r : Found PlainStatement) : Type 0 where
    pub statement : Statement
    pub reads : ReadsAs x statement
    pub gives : resolved (schema (take at H) actions) s.session s.fresh statement ≡ r

  -- a text asks for this, at a version and after these actions
  abbrev pub Asks : SessionState → List ℕ → ℕ → List PlainAction → PlainStatement → Type 0
  Asks s x at actions st = ResolvesTo s x at actions (Ok st)

  -- a text is BEGIN, COMMIT or ROLLBACK; these name nothing, so the version without tables serves
  abbrev pub Orders : SessionState → List ℕ → PlainStatement → Type 0
  Orders s x st = Asks s x 0 [] st

  -- commit m of the history is this one
  abbrev pub IsCommit : ℕ → PlainCommit → Type 0
  IsCommit m c = (0 < m) × (slice_get H (m - 1) ≡ Some c)
