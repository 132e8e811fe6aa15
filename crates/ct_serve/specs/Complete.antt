-- Completeness: what is within all limits is not refused.
use Rattle.std.specs.Prelude.{◌≡◌, ℕ, ◌+◌, ◌<◌, ◌≤◌, ◌⊎◌, List, [], ◌∷◌, ◌++◌, length, take, All, ⊤, Some, None, Err, IsSome, IsTrue}
use Rattle.ct_word.specs.Value.{World}
use Rattle.ct_word.specs.Change.{PlainCommit}
use Rattle.ct_query.specs.Plain.{PlainAction, PlainStatement}
use Rattle.ct_query.specs.Plain as plain
use Rattle.ct_query.specs.declared.action.Read.{Read}
use Rattle.ct_query.specs.Worlds.{admits}
use Rattle.ct_query.specs.Reads.{last}
use Rattle.ct_query.specs.Patterns.{count}
use Rattle.ct_algebra.specs.Evaluates.{limit}
use Rattle.ct_resolve.specs.declared.error.ResolveError.{ResolveError}
use Rattle.ct_lex.specs.Texts.{texts}
use Rattle.ct_rewrite.specs.History.{plain_history}
use Rattle.ct_transcript.specs.declared.reply.Reply.{Reply}
use Rattle.ct_transcript.specs.declared.reply.Reply.TheVariants as reply
use Rattle.ct_transcript.specs.declared.reply.Refusal.{Refusal}
use Rattle.ct_transcript.specs.declared.reply.Refusal.TheVariants as refusal
use Rattle.ct_transcript.specs.declared.reply.SessionLog.{SessionLog}
use Rattle.ct_transcript.specs.declared.transcript.Transcript.{Transcript}
use Rattle.ct_transaction.specs.Statements.{IsTextFault}
use Rattle.ct_transaction.specs.State.{SessionState, beginning}
use Rattle.ct_transaction.specs.Seeing.{Sees, ResolvesTo, Asks, Orders}
use Rattle.ct_statement.specs.Sources.{is_assertion}
use Rattle.ct_statement.specs.Unmet.{asked_size}
use Rattle.ct_transaction.specs.LawfulRefusal.{CommitsWhole, CommitsAlone}
use Rattle.ct_transaction.specs.LawfulReply.{LawfulReply}
use Rattle.ct_transaction.specs.Answers.{commits_by}

-- a reply is no refusal, or want of memory
abbrev pub IsAnswered : Reply → Type 0
IsAnswered (reply.Refused at why) = why ≡ refusal.Memory
IsAnswered _ = ⊤

-- up to this version of the history the session has made as many commits as in its state: none that it makes later
abbrev pub IsCurrent : List PlainCommit → SessionState → ℕ → Type 0
IsCurrent H s at = length (commits_by s.session 1 (take at H)) ≡ s.commits

-- H is the run's history, W the words of its log, N their capacity
module _ (H : List PlainCommit) (W : List ℕ) (N : ℕ) where
  -- a statement is within all limits in a state, wherever it is answered among some versions
  pub record IsWithinLimitsWhere (At : ℕ → Type 0) (s : SessionState) (x : List ℕ) : Type 0 where
    -- no fault of the text, and in its place
    pub read : (why : Refusal) → IsTextFault x why → ⊥
    pub begins_outside : Orders H s x plain.Begin → s.transaction ≡ None
    pub ends_inside : (st : PlainStatement) → (st ≡ plain.Commit) ⊎ (st ≡ plain.Rollback) → Orders H s x st → IsSome s.transaction
    -- no fault of a name or a count
    pub named : (at : ℕ) (actions : List PlainAction) (e : ResolveError) → At at → Sees H s at actions → ResolvesTo H s x at actions (Err e) → ⊥
    -- what it evaluates is not too large, and the log is not full
    pub small : (at : ℕ) (actions : List PlainAction) (st : PlainStatement) (asked : ℕ) → At at → Sees H s at actions → Asks H s x at actions st
        → asked_size (count (take at H) actions) st ≡ Some asked → asked ≤ limit
    pub room : length W < N
    -- where it asserts, some valuation satisfies it
    pub satisfied : (at : ℕ) (actions : List PlainAction) (a : PlainAction) → At at → Sees H s at actions → Asks H s x at actions (plain.Act a) → IsTrue (is_assertion a)
        → (v : World) × IsTrue (admits v (take at H) (actions ++ a ∷ []))
    -- where it commits, no commit after its base has written what it reads
    pub unwritten : (base at : ℕ) (reads : List Read) → At at → CommitsWhole H W N s x base reads ⊎ CommitsAlone H W N s x base reads → at ≤ length H
        → All (λ r. last (take at H) r ≤ base) reads

  -- it is, wherever before the session's next commit it is answered
  abbrev pub IsWithinLimits : SessionState → List ℕ → Type 0
  IsWithinLimits s x = IsWithinLimitsWhere (IsCurrent H s) s x

  -- it is at one version
  abbrev pub IsWithinLimitsAt : ℕ → SessionState → List ℕ → Type 0
  IsWithinLimitsAt at s x = IsWithinLimitsWhere (λ v. v ≡ at) s x

  -- a refusal, other than for want of memory, is of a statement that is not within all limits at the version that the
  -- refusal carries
  abbrev pub HasCause : SessionState → List ℕ → Reply → Type 0
  HasCause s x (reply.Refused at why) = IsWithinLimitsAt at s x → why ≡ refusal.Memory
  HasCause s x _ = ⊤

  -- each of these replies to these texts is lawful in the state that the one before it left; one to a statement within all
  -- limits is no refusal but want of memory, and each refusal has its cause at the version that it carries
  abbrev pub AreComplete : SessionState → List (List ℕ) → List Reply → SessionState → Type 0
  AreComplete s [] [] last = s ≡ last
  AreComplete s (x ∷ xs) (r ∷ rs) last =
      (next : SessionState) × LawfulReply H W N s x r next × (IsWithinLimits s x → IsAnswered r) × HasCause s x r × AreComplete next xs rs last
  AreComplete s _ _ last = ⊥

  -- the replies of a session are complete
  abbrev pub IsCompleteSession : ℕ → SessionLog → Type 0
  IsCompleteSession s log = (last : SessionState) × AreComplete (beginning s) (texts log.script) log.replies last

  -- the replies of the sessions are complete, the first session having this number
  abbrev pub AreCompleteSessions : ℕ → List SessionLog → Type 0
  AreCompleteSessions s [] = ⊤
  AreCompleteSessions s (l ∷ ls) = IsCompleteSession s l × AreCompleteSessions (s + 1) ls

-- the replies of a transcript are complete, for a capacity of N words
abbrev pub IsComplete : Transcript → ℕ → Type 0
IsComplete t N = AreCompleteSessions (plain_history t.history) t.words N 1 t.sessions
