-- What a statement asks for, ready to be given, and why it is refused.
use Rattle.std.specs.Prelude.{◌≡◌, ◌≢◌, ◌+◌, ℕ, Bool, true, false, List, Option, Some, None, IsSome, IsTrue, Result, Ok, Err, IfOk, IfErr}
use mathlib.Core.List.{IsPrefix}
use Rattle.ct_word.specs.Change.{PlainChange, PlainCommit}
use Rattle.ct_arena.specs.Seen.{Seen}
use Rattle.ct_condition.specs.Writes.{charge, kept_of}
use Rattle.ct_query.specs.Patterns.{count}
use Rattle.ct_query.specs.Plain.{PlainAction, PlainQuery, PlainStatement}
use Rattle.ct_query.specs.Plain as plain
use Rattle.ct_query.specs.Views.{action_of}
use Rattle.ct_query.specs.declared.action.Ask.{Ask}
use Rattle.ct_query.specs.declared.action.Read.{Read}
use Rattle.ct_query.specs.Reads.{reads_of}
use Rattle.ct_query.specs.Fits.{FitsStatement}
use Rattle.ct_query.specs.Schema.{schema}
use Rattle.ct_parse.specs.declared.tree.Statement.{Statement}
use Rattle.ct_parse.specs.declared.tree.Statement.TheVariants as tree
use Rattle.ct_resolve.specs.declared.error.ResolveError.{ResolveError}
use Rattle.ct_resolve.specs.declared.error.ResolveError.TheVariants as name
use Rattle.ct_resolve.specs.Statements.{resolved}
use Rattle.ct_resolve.specs.Writing.{WritesStatement}
use Rattle.ct_transcript.specs.declared.reply.Refusal.{Refusal}
use Rattle.ct_transcript.specs.declared.reply.Refusal.TheVariants as refusal
use Rattle.ct_statement.specs.declared.sight.Sight.{Sight}
use Rattle.ct_statement.specs.declared.replying.Answered.{Answered}
use Rattle.ct_statement.specs.Answered.{Answers}
use Rattle.ct_statement.specs.Drawing.{drawn}
use Rattle.ct_statement.specs.Making.{is_full, widths_in}
use Rattle.ct_statement.specs.Proposals.{IsProposal, IsStep, listed}
use Rattle.ct_statement.specs.Sight.{actions_before, history_of, IsSight}
use Rattle.ct_statement.specs.Sources.{is_assertion}
use Rattle.ct_statement.specs.Unmet.{IsUnmet}
use Rattle.ct_transaction.specs.Bounded.{Performs}
use Rattle.ct_transaction.specs.declared.preparing.Prepared.{Prepared}
use Rattle.ct_transaction.specs.declared.preparing.Prepared.TheVariants as prepared
use Rattle.ct_statement.specs.declared.stepping.Step.{Step}

-- the refusal of a name or a count that does not fit
abbrev pub name_refusal : ResolveError → Refusal
name_refusal name.UnknownTable = refusal.UnknownTable
name_refusal name.TableExists = refusal.TableExists
name_refusal name.UnknownColumn = refusal.UnknownColumn
name_refusal name.AmbiguousColumn = refusal.AmbiguousColumn
name_refusal name.DuplicateName = refusal.DuplicateName
name_refusal name.ColumnCount = refusal.ColumnCount
name_refusal name.Memory = refusal.Memory

-- where a step was made, it is that of the action
abbrev pub IsStepIf : List ℕ → Sight → PlainAction → Option Step → Type 0
IsStepIf words s a None = Unit {0}
IsStepIf words s a (Some step) = IsStep words s a step

-- an action as it is proposed: its change, the null that was drawn last, and the step where one was made
pub record IsChange (words : List ℕ) (h : List PlainCommit) (before : List PlainAction) (list : List PlainChange) (fresh : ℕ) (s : Sight) (a a' : PlainAction) (changes fresh' : ℕ) (step : Option Step) : Type 0 where
  pub action : a' ≡ a
  pub proposes : IsProposal words h before list a changes
  pub draws : fresh' ≡ fresh + drawn a
  pub steps : IsStepIf words s a step

-- what a statement with positions asks for, ready to be given
abbrev pub IsPreparedFor : List ℕ → List PlainCommit → List PlainAction → List PlainChange → ℕ → Sight → PlainStatement → Prepared → Type 0
IsPreparedFor words h before list fresh s (plain.Act a) (prepared.Change proposal step) = IsChange words h before list fresh s a (action_of proposal.action) proposal.changes proposal.fresh step
IsPreparedFor words h before list fresh s (plain.Asks k columns query) (prepared.Answer answered) = Answers h before words k columns query answered
IsPreparedFor words h before list fresh s _ _ = ⊥

-- a statement resolves to what is prepared, and reads these
pub record IsPrepared (words : List ℕ) (h : List PlainCommit) (before : List PlainAction) (list : List PlainChange) (session fresh : ℕ) (s : Sight) (st : Statement) (p : Prepared) (reads : List Read) : Type 0 where
  pub asked : PlainStatement
  pub resolves : resolved (schema h before) session fresh st ≡ Ok asked
  pub reads_are : reads ≡ reads_of asked
  pub prepared : IsPreparedFor words h before list fresh s asked p

-- what an answer was prepared for
pub record ForAnswer (words : List ℕ) (h : List PlainCommit) (before : List PlainAction) (session fresh : ℕ) (st : Statement) (given : Answered) (reads : List Read) : Type 0 where
  pub kind : Ask
  pub columns : List (List ℕ)
  pub query : PlainQuery
  pub resolves : resolved (schema h before) session fresh st ≡ Ok (plain.Asks kind columns query)
  pub answers : Answers h before words kind columns query given
  pub reads_are : reads ≡ reads_of (plain.Asks kind columns query)

-- a statement resolves to one for which this is wanting
pub record IsUnmetAt (h : List PlainCommit) (before : List PlainAction) (room : ℕ) (words : List ℕ) (session fresh : ℕ) (st : Statement) (why : Refusal) : Type 0 where
  pub asked : PlainStatement
  pub resolves : resolved (schema h before) session fresh st ≡ Ok asked
  pub unmet : IsUnmet h before room words asked why

-- why a statement is refused: a name or a count does not fit, or something is wanting for it
pub data IsRefused (h : List PlainCommit) (before : List PlainAction) (room : ℕ) (words : List ℕ) (session fresh : ℕ) (st : Statement) : Refusal → Type 0 where
  by_name : (e : ResolveError) → e ≢ name.Memory → resolved (schema h before) session fresh st ≡ Err e → IsRefused h before room words session fresh st (name_refusal e)
  unmet : (why : Refusal) → IsUnmetAt h before room words session fresh st why → IsRefused h before room words session fresh st why
  wanting_memory : IsRefused h before room words session fresh st refusal.Memory

-- a statement is no BEGIN, COMMIT or ROLLBACK
abbrev pub IsNoOrder : Statement → Type 0
IsNoOrder tree.Begin = ⊥
IsNoOrder tree.Commit = ⊥
IsNoOrder tree.Rollback = ⊥
IsNoOrder _ = Unit {0}

-- a statement with positions is no BEGIN, COMMIT or ROLLBACK
abbrev pub IsNoPlainOrder : PlainStatement → Type 0
IsNoPlainOrder (plain.Act a) = Unit {0}
IsNoPlainOrder (plain.Asks k columns query) = Unit {0}
IsNoPlainOrder _ = ⊥

-- a statement resolves to this one with positions, which fits the tables and can be written, and is no order
pub record IsResolved (h : List PlainCommit) (before : List PlainAction) (session fresh : ℕ) (st : Statement) (asked : PlainStatement) : Type 0 where
  pub resolves : resolved (schema h before) session fresh st ≡ Ok asked
  pub fits : FitsStatement (schema h before).tables asked
  pub writes : WritesStatement asked
  pub plain : IsNoPlainOrder asked

-- the step of an action was made, in a transaction and for an assertion
abbrev pub needs_step : Bool → Prepared → Type 0
needs_step true (prepared.Change proposal step) = IsSome step
needs_step false (prepared.Change proposal step) = IsTrue (is_assertion (action_of proposal.action)) → IsSome step
needs_step inside (prepared.Answer answered) = Unit {0}

-- a statement with positions that is no order can be performed at what is seen: it fits, and can be written
pub record IsPerformable (words : List ℕ) (s : Sight) (asked : PlainStatement) : Type 0 where
  pub sight : IsSight words s
  pub fits : FitsStatement (schema (history_of words s) (actions_before s)).tables asked
  pub writes : WritesStatement asked
  pub plain : IsNoPlainOrder asked

-- a call prepared a statement with positions at what it sees, in a transaction or outside, or something is wanting for it. The
-- words only grew, and what was made is at most its words
pub record Prepares (inside : Bool) (N : ℕ) (old new : Seen) (s : Sight) (list : Option ℕ) (fresh : ℕ) (asked : PlainStatement) (r : Result Prepared Refusal) : Type 0 where
  pub longer : IsPrefix old.words new.words
  pub kept : kept_of new ≡ kept_of old
  pub made : Performs inside (count (history_of old.words s) (actions_before s)) (widths_in (schema (history_of old.words s) (actions_before s)).tables) asked old.made (new.made + charge (is_full r))
  pub ok : IfOk r (IsPreparedFor new.words (history_of old.words s) (actions_before s) (listed old.words list) fresh s asked)
  pub steps : IfOk r (needs_step inside)
  pub err : IfErr r (IsUnmet (history_of old.words s) (actions_before s) N new.words asked)
