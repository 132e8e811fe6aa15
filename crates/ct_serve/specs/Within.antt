-- The words of a run are within the bounds of its statements, summed.
use Rattle.std.specs.Prelude.{◌≡◌, ℕ, ◌+◌, ◌≤◌, true, List, [], ◌∷◌, length}
use Rattle.ct_word.specs.Change.{PlainCommit}
use Rattle.ct_lex.specs.Texts.{texts}
use Rattle.ct_rewrite.specs.History.{plain_history}
use Rattle.ct_transcript.specs.declared.reply.Reply.{Reply}
use Rattle.ct_transcript.specs.declared.reply.SessionLog.{SessionLog}
use Rattle.ct_transcript.specs.declared.transcript.Transcript.{Transcript}
use Rattle.ct_transaction.specs.Answers.{is_unasked}
use Rattle.ct_transaction.specs.Bounded.{HasBound}
use Rattle.ct_transaction.specs.LawfulReply.{LawfulReply}
use Rattle.ct_transaction.specs.State.{SessionState, beginning}

-- H is the run's history, W the words of its log, N their capacity
module _ (H : List PlainCommit) (W : List ℕ) (N : ℕ) where
  -- replies that lead lawfully from one state to another, and a bound on the words of each text in the state that the reply
  -- before it left, 0 for one that was refused for a name; the number is the sum of the bounds
  abbrev pub AreWithin : SessionState → List (List ℕ) → List Reply → SessionState → ℕ → Type 0
  AreWithin s [] [] last total = (s ≡ last) × (total ≡ 0)
  AreWithin s (x ∷ xs) (r ∷ rs) last total =
      (next : SessionState) × LawfulReply H W N s x r next × (b : ℕ) × HasBound H s x b × (is_unasked r ≡ true → b ≡ 0) × (rest : ℕ) × (total ≡ b + rest) × AreWithin next xs rs last rest
  AreWithin s _ _ last total = ⊥

  -- the bounds of a session's statements have this sum
  abbrev pub IsSessionWithin : ℕ → SessionLog → ℕ → Type 0
  IsSessionWithin s log total = (last : SessionState) × AreWithin (beginning s) (texts log.script) log.replies last total

  -- those of all sessions, the first session having this number
  abbrev pub AreSessionsWithin : ℕ → List SessionLog → ℕ → Type 0
  AreSessionsWithin s [] total = total ≡ 0
  AreSessionsWithin s (l ∷ ls) total = (own : ℕ) × IsSessionWithin s l own × (rest : ℕ) × (total ≡ own + rest) × AreSessionsWithin (s + 1) ls rest

-- a transcript has at most as many words as the sum of the bounds of all statements of all sessions, and the two of each log
pub record IsWithin (t : Transcript) (N : ℕ) : Type 0 where
  pub total : ℕ
  pub sessions : AreSessionsWithin (plain_history t.history) t.words N 1 t.sessions total
  pub words : length t.words ≤ 2 + total
