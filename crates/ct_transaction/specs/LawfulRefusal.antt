-- Which refusal may follow a text in a state, and the state after it.
use Rattle.std.specs.Prelude.{◌≡◌, ℕ, ◌<◌, ◌≤◌, ◌⊎◌, false, List, [], ◌∷◌, ◌++◌, length, take, Some, None, Err, All, IsSome, IsTrue}
use Rattle.ct_word.specs.Value.{World}
use Rattle.ct_word.specs.Condition.{holds_at}
use Rattle.ct_word.specs.Change.{PlainCommit}
use Rattle.ct_word.specs.Reading.{condition_at}
use Rattle.ct_derivation.specs.declared.steps.Proof.{Proof}
use Rattle.ct_derivation.specs.Accepts.{AcceptsProof}
use Rattle.ct_query.specs.Plain.{PlainAction, PlainStatement}
use Rattle.ct_query.specs.Plain as plain
use Rattle.ct_query.specs.declared.action.Read.{Read}
use Rattle.ct_query.specs.Worlds.{admits}
use Rattle.ct_query.specs.Reads.{last, action_reads}
use Rattle.ct_query.specs.Patterns.{count}
use Rattle.ct_query.specs.Bounds.{bound}
use Rattle.ct_query.specs.Schema.{schema}
use Rattle.ct_algebra.specs.Evaluates.{limit}
use Rattle.ct_transcript.specs.declared.reply.Refusal.{Refusal}
use Rattle.ct_transcript.specs.declared.reply.Refusal.TheVariants as refusal
use Rattle.ct_resolve.specs.declared.error.ResolveError.{ResolveError}
use Rattle.ct_resolve.specs.declared.error.ResolveError.TheVariants as name
use Rattle.ct_transaction.specs.Statements.{IsTextFault}
use Rattle.ct_transaction.specs.State.{Transaction, SessionState, carried, own_actions, with_transaction}
use Rattle.ct_transaction.specs.Seeing.{Sees, ResolvesTo, Asks, Orders}
use Rattle.ct_statement.specs.Making.{widths_in}
use Rattle.ct_statement.specs.Sources.{is_assertion}
use Rattle.ct_statement.specs.Unmet.{asked_size}

-- H is the run's history, W the words of its log, N their capacity
module _ (H : List PlainCommit) (W : List ℕ) (N : ℕ) where
  -- the text is read as no statement, for this reason
  pub record IsUnread (s : SessionState) (x : List ℕ) (at : ℕ) (why : Refusal) : Type 0 where
    pub found : IsTextFault x why
    pub at_is : at ≡ s.seen

  -- BEGIN in a transaction
  pub record IsInTransaction (s : SessionState) (x : List ℕ) (at : ℕ) : Type 0 where
    pub is_open : IsSome s.transaction
    pub asks : Orders H s x plain.Begin
    pub at_is : at ≡ s.seen

  -- COMMIT or ROLLBACK outside a transaction
  pub record IsNoTransaction (s : SessionState) (x : List ℕ) (at : ℕ) : Type 0 where
    pub none_open : s.transaction ≡ None
    pub statement : PlainStatement
    pub ends : (statement ≡ plain.Commit) ⊎ (statement ≡ plain.Rollback)
    pub asks : Orders H s x statement
    pub at_is : at ≡ s.seen

  -- the text is a statement with a name or a count that does not fit what it sees; this is its first fault
  pub record IsNameFault (s : SessionState) (x : List ℕ) (at : ℕ) (e : ResolveError) : Type 0 where
    pub actions : List PlainAction
    pub sees : Sees H s at actions
    pub found : ResolvesTo H s x at actions (Err e)

  -- what a statement evaluates is too large: by the counts of all rows that were ever made, a part of its query, or the
  -- key that it asserts, goes through more rows, or pairs of rows, than a part may
  pub record IsTooLarge (s : SessionState) (x : List ℕ) (at : ℕ) : Type 0 where
    pub actions : List PlainAction
    pub statement : PlainStatement
    pub asked : ℕ
    pub sees : Sees H s at actions
    pub asks : Asks H s x at actions statement
    pub evaluates : asked_size (count (take at H) actions) statement ≡ Some asked
    pub past : limit < asked

  -- the log is full, and the statement may need a word
  pub record IsFull (s : SessionState) (x : List ℕ) (at : ℕ) : Type 0 where
    pub actions : List PlainAction
    pub statement : PlainStatement
    pub sees : Sees H s at actions
    pub asks : Asks H s x at actions statement
    pub full : length W ≡ N
    pub makes_words : 1 ≤ bound (count H actions) (widths_in (schema (take at H) actions).tables) (own_actions s) statement

  -- no admitted valuation satisfies the assertion: the proof refutes a condition that is true where one does
  pub record IsInconsistent (s : SessionState) (x : List ℕ) (at : ℕ) (proof : Proof) : Type 0 where
    pub actions : List PlainAction
    pub action : PlainAction
    pub is : IsTrue (is_assertion action)
    pub sees : Sees H s at actions
    pub asks : Asks H s x at actions (plain.Act action)
    pub none_satisfies : (v : World) → admits v (take at H) (actions ++ action ∷ []) ≡ false
    pub accepted : AcceptsProof W proof
    pub root : (v : World) → holds_at v (condition_at W proof.root) ≡ admits v (take at H) (actions ++ action ∷ [])

  -- COMMIT of a transaction of at least one action from this base, with these reads
  pub record CommitsWhole (s : SessionState) (x : List ℕ) (base : ℕ) (reads : List Read) : Type 0 where
    pub transaction : Transaction
    pub is_open : s.transaction ≡ Some transaction
    pub asks : Orders H s x plain.Commit
    pub has_actions : 0 < length transaction.actions
    pub base_is : base ≡ transaction.base
    pub reads_are : reads ≡ transaction.reads

  -- an action outside a transaction, from a version from the one seen on
  pub record CommitsAlone (s : SessionState) (x : List ℕ) (base : ℕ) (reads : List Read) : Type 0 where
    pub none_open : s.transaction ≡ None
    pub action : PlainAction
    pub asks : Asks H s x base [] (plain.Act action)
    pub from_seen : s.seen ≤ base
    pub reads_are : reads ≡ action_reads action

  -- the first of the reads that a commit after the base, up to a version, has written
  pub record IsFirstWritten (reads : List Read) (base at : ℕ) (table : Read) : Type 0 where
    pub before : List Read
    pub after : List Read
    pub place : reads ≡ before ++ table ∷ after
    pub unchanged : All (λ r. last (take at H) r ≤ base) before
    pub written : base < last (take at H) table

  -- a commit that meets a later one; what is shown is the first written read, its last commit at the base and now
  pub record IsConflict (s : SessionState) (x : List ℕ) (table : Read) (was now at : ℕ) (next : SessionState) : Type 0 where
    pub base : ℕ
    pub reads : List Read
    pub commits : CommitsWhole s x base reads ⊎ CommitsAlone s x base reads
    pub later : base < at
    pub within : at ≤ length H
    pub first : IsFirstWritten reads base at table
    pub was_is : was ≡ last (take base H) table
    pub now_is : now ≡ last (take at H) table
    pub next_is : next ≡ carried at (with_transaction None s)

  -- a refusal that leaves the state but for the version seen
  abbrev pub Keeps : SessionState → ℕ → SessionState → Type 0
  Keeps s at next = next ≡ carried at s

  -- which refusal may follow; want of memory is free
  abbrev pub LawfulRefusal : SessionState → List ℕ → ℕ → Refusal → SessionState → Type 0
  LawfulRefusal s x at refusal.NotAStatement next = IsUnread s x at refusal.NotAStatement × Keeps s at next
  LawfulRefusal s x at refusal.TooDeep next = IsUnread s x at refusal.TooDeep × Keeps s at next
  LawfulRefusal s x at refusal.NumberRange next = IsUnread s x at refusal.NumberRange × Keeps s at next
  LawfulRefusal s x at refusal.InTransaction next = IsInTransaction s x at × Keeps s at next
  LawfulRefusal s x at refusal.NoTransaction next = IsNoTransaction s x at × Keeps s at next
  LawfulRefusal s x at refusal.UnknownTable next = IsNameFault s x at name.UnknownTable × Keeps s at next
  LawfulRefusal s x at refusal.TableExists next = IsNameFault s x at name.TableExists × Keeps s at next
  LawfulRefusal s x at refusal.UnknownColumn next = IsNameFault s x at name.UnknownColumn × Keeps s at next
  LawfulRefusal s x at refusal.AmbiguousColumn next = IsNameFault s x at name.AmbiguousColumn × Keeps s at next
  LawfulRefusal s x at refusal.DuplicateName next = IsNameFault s x at name.DuplicateName × Keeps s at next
  LawfulRefusal s x at refusal.ColumnCount next = IsNameFault s x at name.ColumnCount × Keeps s at next
  LawfulRefusal s x at refusal.TooLarge next = IsTooLarge s x at × Keeps s at next
  LawfulRefusal s x at refusal.Full next = IsFull s x at × Keeps s at next
  LawfulRefusal s x at (refusal.Inconsistent proof) next = IsInconsistent s x at proof × Keeps s at next
  LawfulRefusal s x at (refusal.Conflict table was now at') next = (at ≡ at') × IsConflict s x table was now at next
  LawfulRefusal s x at refusal.Memory next = (at ≡ s.seen) × Keeps s at next
