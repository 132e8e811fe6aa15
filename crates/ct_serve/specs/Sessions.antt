-- When the replies of a session are lawful.
use Rattle.std.specs.Prelude.{◌≡◌, ℕ, ◌+◌, Bool, List, [], ◌∷◌, filter_map, All, ⊤}
use Rattle.std.specs.List.{list_any}
use Rattle.ct_word.specs.Change.{PlainCommit}
use Rattle.ct_lex.specs.Texts.{texts}
use Rattle.ct_transcript.specs.declared.reply.Reply.{Reply}
use Rattle.ct_transcript.specs.declared.reply.Reply.TheVariants as reply
use Rattle.ct_transcript.specs.declared.reply.Refusal.TheVariants as refusal
use Rattle.ct_transcript.specs.declared.reply.SessionLog.{SessionLog}
use Rattle.ct_transaction.specs.State.{SessionState, beginning}
use Rattle.ct_transaction.specs.LawfulReply.{LawfulReply}
use Rattle.ct_transaction.specs.Answers.{committed_of, commits_by}

-- whether some reply of some session passes a test
abbrev pub some_reply : (Reply → Bool) → List SessionLog → Bool
some_reply test logs = list_any (λ l. list_any test l.replies) logs

-- that a reply is not Committed
abbrev pub IsNoCommit : Reply → Type 0
IsNoCommit (reply.Committed m) = ⊥
IsNoCommit _ = ⊤

-- that no Committed reply follows a Full one
abbrev pub EndsAtFull : List Reply → Type 0
EndsAtFull [] = ⊤
EndsAtFull (reply.Refused at refusal.Full ∷ rs) = All IsNoCommit rs
EndsAtFull (r ∷ rs) = EndsAtFull rs

module _ (H : List PlainCommit) (W : List ℕ) (N : ℕ) where
  -- one reply for each text, each lawful in the state that the one before it left, from one state to another
  abbrev pub AreLawful : SessionState → List (List ℕ) → List Reply → SessionState → Type 0
  AreLawful s [] [] last = s ≡ last
  AreLawful s (x ∷ xs) (r ∷ rs) last = (next : SessionState) × LawfulReply H W N s x r next × AreLawful next xs rs last
  AreLawful s _ _ last = ⊥

  -- a session's replies are lawful, and its commits are those of its Committed replies
  pub record IsLawfulSession (s : ℕ) (log : SessionLog) : Type 0 where
    pub last : SessionState
    pub replies : AreLawful (beginning s) (texts log.script) log.replies last
    pub commits : commits_by s 1 H ≡ filter_map committed_of log.replies
    pub full : EndsAtFull log.replies

  -- the sessions are lawful, the first having this number
  abbrev pub AreLawfulSessions : ℕ → List SessionLog → Type 0
  AreLawfulSessions s [] = ⊤
  AreLawfulSessions s (l ∷ ls) = IsLawfulSession s l × AreLawfulSessions (s + 1) ls
