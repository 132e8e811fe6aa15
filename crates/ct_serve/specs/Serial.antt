-- Serial answers: what a transaction was answered that is committed later is right at the commit before its own too.
use Rattle.std.specs.Prelude.{ℕ, ◌+◌, ◌-◌, List, [], ◌∷◌, map, take, Option, Some, None, IsSome, IfSome, ⊤}
use Rattle.ct_word.specs.Sublist.{IsSublist}
use Rattle.ct_word.specs.Change.{PlainCommit}
use Rattle.ct_query.specs.Patterns.{pattern}
use Rattle.ct_lex.specs.Texts.{texts}
use Rattle.ct_rewrite.specs.History.{plain_history}
use Rattle.ct_transcript.specs.Means.{Means}
use Rattle.ct_transcript.specs.Possible.{PossibleRight}
use Rattle.ct_transcript.specs.Certain.{CertainRight}
use Rattle.ct_transcript.specs.declared.reply.Reply.{Reply}
use Rattle.ct_transcript.specs.declared.reply.Reply.TheVariants as reply
use Rattle.ct_transcript.specs.declared.reply.Refusal.TheVariants as refusal
use Rattle.ct_transcript.specs.declared.reply.SessionLog.{SessionLog}
use Rattle.ct_transcript.specs.declared.transcript.Transcript.{Transcript}
use Rattle.ct_transaction.specs.State.{SessionState, beginning}
use Rattle.ct_transaction.specs.LawfulReply.{LawfulReply}
use Rattle.ct_serve.specs.Sessions.{AreLawful}

-- the number of the commit that an open transaction becomes by these replies: that of the first Committed one, and none
-- where RolledBack, Nothing or Conflict comes before it, or where there is none
abbrev pub committed_later : List Reply → Option ℕ
committed_later [] = None
committed_later (reply.Committed m ∷ rs) = Some m
committed_later (reply.RolledBack ∷ rs) = None
committed_later (reply.Nothing at ∷ rs) = None
committed_later (reply.Refused at (refusal.Conflict table was now at') ∷ rs) = None
committed_later (r ∷ rs) = committed_later rs

-- H is the run's history, W the words of its log, N their capacity
module _ (H : List PlainCommit) (W : List ℕ) (N : ℕ) where
  -- what is answered to a query is right, after the actions that its statement saw, after these commits too
  abbrev pub IsRightAfter : List PlainCommit → (s next : SessionState) (x : List ℕ) (r : Reply) → LawfulReply H W N s x r next → Type 0
  IsRightAfter h s next x (reply.Rows at plus answer) l = Means answer l.query h l.actions × IsSublist (map (λ r. r.cells) answer.rows) (pattern h l.actions l.query)
  IsRightAfter h s next x (reply.Possible at plus columns list) l = PossibleRight list l.query h l.actions
  IsRightAfter h s next x (reply.Certain at plus columns list) l = CertainRight list l.query h l.actions W
  IsRightAfter h s next x _ l = ⊤

  -- of replies that lead lawfully from one state to another: what is answered in a transaction that becomes commit m is right
  -- after the m - 1 commits before that one
  abbrev pub AreSerial : (s : SessionState) (xs : List (List ℕ)) (rs : List Reply) (last : SessionState) → AreLawful H W N s xs rs last → Type 0
  AreSerial s (x ∷ xs) (r ∷ rs) last l =
      (IsSome s.transaction → IfSome (committed_later rs) (λ m. IsRightAfter (take (m - 1) H) s l.0 x r l.1)) × AreSerial l.0 xs rs last l.2
  AreSerial s _ _ last l = ⊤

  -- the replies of a session are serial, by whichever states they are lawful
  abbrev pub IsSerialSession : ℕ → SessionLog → Type 0
  IsSerialSession s log = (last : SessionState) (l : AreLawful H W N (beginning s) (texts log.script) log.replies last) → AreSerial (beginning s) (texts log.script) log.replies last l

  -- the replies of the sessions are serial, the first session having this number
  abbrev pub AreSerialSessions : ℕ → List SessionLog → Type 0
  AreSerialSessions s [] = ⊤
  AreSerialSessions s (log ∷ logs) = IsSerialSession s log × AreSerialSessions (s + 1) logs

-- the replies of a transcript are serial, for a capacity of N words
abbrev pub IsSerial : Transcript → ℕ → Type 0
IsSerial t N = AreSerialSessions (plain_history t.history) t.words N 1 t.sessions
