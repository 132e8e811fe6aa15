-- Where some reply says that the log is full, the bounds of the statements reach its capacity.
use Rattle.std.{proofs.Common.{◌≡◌, ℕ, ◌+◌, ◌≤◌, Bool, true, false, ◌||◌, List, [], ◌∷◌, length, refl, arith}, specs.List.list_any, proofs.lemmas.Bool.false≢true}
use Rattle.ct_word.specs.Change.{PlainCommit}
use Rattle.ct_lex.specs.Texts.{texts}
use Rattle.ct_rewrite.specs.History.{plain_history}
use Rattle.ct_transcript.{specs.declared.reply.Reply.Reply, specs.declared.reply.SessionLog.SessionLog, specs.declared.transcript.Transcript.Transcript}
use Rattle.ct_transaction.{specs.Answers.is_full, specs.LawfulReply.LawfulReply, specs.State.{SessionState, beginning}}
use Rattle.ct_serve.{specs.Lawful.Lawful, specs.Sessions.{some_reply, AreLawful, AreLawfulSessions}, specs.Within.IsWithin}
use Rattle.ct_transcript.specs.declared.reply.Reply.TheVariants as reply
use Rattle.ct_transcript.specs.declared.reply.Refusal.TheVariants as refusal

module _ (H : List PlainCommit) (W : List ℕ) (N : ℕ) where
  full_reply : (s next : SessionState) (x : List ℕ) (r : Reply) → LawfulReply H W N s x r next → is_full r ≡ true → length W ≡ N
  full_reply s next x (reply.Refused at refusal.Full) l e = l.0.full
  full_reply s next x _ l e = absurd (false≢true e)

  full_session : (s last : SessionState) (xs : List (List ℕ)) (rs : List Reply) → AreLawful H W N s xs rs last → list_any is_full rs ≡ true → length W ≡ N
  full_session s last [] [] l e = absurd (false≢true e)
  full_session s last (x ∷ xs) (r ∷ rs) l e = by_test (is_full r) (full_reply s l.0 x r l.1) e (full_session l.0 last xs rs l.2) where
    by_test : (b : Bool) → (b ≡ true → length W ≡ N) → (b || list_any is_full rs) ≡ true → (list_any is_full rs ≡ true → length W ≡ N) → length W ≡ N
    by_test true here any rest = here refl
    by_test false here any rest = rest any
  full_session s last [] (r ∷ rs) l e = absurd l
  full_session s last (x ∷ xs) [] l e = absurd l

  full_sessions : (s : ℕ) (logs : List SessionLog) → AreLawfulSessions H W N s logs → list_any (λ (l : SessionLog). list_any is_full l.replies) logs ≡ true → length W ≡ N
  full_sessions s [] l e = absurd (false≢true e)
  full_sessions s (log ∷ logs) l e =
      by_test (list_any is_full log.replies) (full_session (beginning s) l.0.last (texts log.script) log.replies l.0.replies) e (full_sessions (s + 1) logs l.1) where
        by_test : (b : Bool) → (b ≡ true → length W ≡ N) → (b || list_any (λ (k : SessionLog). list_any is_full k.replies) logs) ≡ true
            → (list_any (λ (k : SessionLog). list_any is_full k.replies) logs ≡ true → length W ≡ N) → length W ≡ N
        by_test true here any rest = here refl
        by_test false here any rest = rest any

pub full_within : (t : Transcript) (N : ℕ) → Lawful t N → (w : IsWithin t N) → some_reply is_full t.sessions ≡ true → N ≤ 2 + w.total
full_within t N l w e =
    let full = full_sessions (plain_history t.history) t.words N 1 t.sessions l.sessions e in
    let most = w.words in
    omega (arith, full, most)
