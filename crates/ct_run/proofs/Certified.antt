-- The certificate of a reply of a lawful transcript is accepted.
use Rattle.std.proofs.Common.{◌≡◌, ℕ, zero, suc, ◌-◌, List, [], ◌∷◌, map}
use Rattle.std.{specs.Prelude.{All, slice_get, option_and_then}, proofs.lemmas.List.Elements.{All-nil, All-cons, All-head, All-tail}}
use Rattle.ct_word.specs.Change.{PlainCommit}
use Rattle.ct_derivation.specs.Accepts.{AcceptsProof}
use Rattle.ct_cert.{specs.Judgement.judgement, proofs.Judged.sound_accepted}
use Rattle.ct_cert.specs.declared.judgement.Judgement.TheVariants as judged
use Rattle.ct_query.specs.Plain.{PlainQuery, PlainAction}
use Rattle.ct_rewrite.{specs.History.plain_history, specs.declared.answer.CertainRow.CertainRow}
use Rattle.ct_transcript.{specs.declared.reply.Reply.Reply, specs.declared.reply.Refusal.Refusal, specs.declared.reply.SessionLog.SessionLog}
use Rattle.ct_transcript.{specs.declared.transcript.Transcript.Transcript, specs.Certain.RefutesAbsence}
use Rattle.ct_transaction.{specs.State.SessionState, specs.LawfulReply.LawfulReply, specs.LawfulRefusal.LawfulRefusal}
use Rattle.ct_serve.{specs.Sessions.{AreLawful, AreLawfulSessions}, specs.Lawful.Lawful}
use Rattle.ct_run.specs.Certificates.{proofs_of, proofs_at, certificate_of}
use Rattle.ct_transcript.specs.declared.reply.Reply.TheVariants as reply
use Rattle.ct_transcript.specs.declared.reply.Refusal.TheVariants as refusal

-- the proofs of certain rows are accepted
row_proofs : (q : PlainQuery) (h : List PlainCommit) (actions : List PlainAction) (words : List ℕ) (rows : List CertainRow)
    → All (λ r. RefutesAbsence r q h actions words) rows → All (AcceptsProof words) (map (λ r. r.proof) rows)
row_proofs q h actions words [] all = All-nil (AcceptsProof words)
row_proofs q h actions words (r ∷ rows) all =
    let first = All-head (λ r. RefutesAbsence r q h actions words) r rows all in
    All-cons (AcceptsProof words) r.proof (map (λ r. r.proof) rows) first.accepted
    (row_proofs q h actions words rows (All-tail (λ r. RefutesAbsence r q h actions words) r rows all))

module _ (H : List PlainCommit) (W : List ℕ) (N : ℕ) where
  refusal_proofs : (s next : SessionState) (x : List ℕ) (at : ℕ) (why : Refusal) → LawfulRefusal H W N s x at why next
      → All (AcceptsProof W) (proofs_of (reply.Refused at why))
  refusal_proofs s next x at (refusal.Inconsistent proof) l = All-cons (AcceptsProof W) proof [] l.0.accepted (All-nil (AcceptsProof W))
  refusal_proofs s next x at _ l = All-nil (AcceptsProof W)

  -- those that a lawful reply carries
  carried : (s next : SessionState) (x : List ℕ) (r : Reply) → LawfulReply H W N s x r next → All (AcceptsProof W) (proofs_of r)
  carried s next x (reply.Certain at plus columns rows) l = row_proofs l.query _ l.actions W rows l.right.refuted
  carried s next x (reply.Refused at why) l = refusal_proofs s next x at why l
  carried s next x _ l = All-nil (AcceptsProof W)

  -- those of a reply that is there, at any place
  carried_at : (s last : SessionState) (xs : List (List ℕ)) (rs : List Reply) (k : ℕ) → AreLawful H W N s xs rs last
      → All (AcceptsProof W) (proofs_at (slice_get rs k))
  carried_at s last [] [] zero l = All-nil (AcceptsProof W)
  carried_at s last [] [] (suc k) l = All-nil (AcceptsProof W)
  carried_at s last (x ∷ xs) (r ∷ rs) zero l = carried s l.0 x r l.1
  carried_at s last (x ∷ xs) (r ∷ rs) (suc k) l = carried_at l.0 last xs rs k l.2
  carried_at s last [] (r ∷ rs) k l = absurd l
  carried_at s last (x ∷ xs) [] k l = absurd l

  in_first : (logs : List SessionLog) (k : ℕ) → AreLawfulSessions H W N 1 logs
      → All (AcceptsProof W) (proofs_at (option_and_then (λ s. slice_get s.replies k) (slice_get logs 0)))
  in_first [] k l = All-nil (AcceptsProof W)
  in_first (log ∷ logs) k l = carried_at _ l.0.last _ log.replies k l.0.replies

pub certificate_accepted : (t : Transcript) (N K : ℕ) → Lawful t N → judgement (certificate_of t K) ≡ judged.Accepted
unfolding certificate_of
certificate_accepted t N K l =
    sound_accepted (certificate_of t K) l.formed (in_first (plain_history t.history) t.words N t.sessions (K - 1) l.sessions)
