-- Certificates: what `prove` writes of a transcript, and what `check` says of the certificate of a file.
use Rattle.std.specs.Prelude.{◌≡◌, ◌≢◌, ◌-◌, ◌<◌, ◌≤◌, ◌⊎◌, ℕ, Bool, false, List, [], ◌∷◌, ◌++◌, length, map, Option, Some, None, IfSome, MatchOption, codes, decimal, slice_get, option_and_then}
use Rattle.ct_derivation.specs.declared.steps.Proof.{Proof}
use Rattle.ct_cert.specs.declared.certificate.Certificate.{Certificate}
use Rattle.ct_cert.specs.declared.judgement.Judgement.{Judgement}
use Rattle.ct_cert.specs.declared.judgement.Judgement.TheVariants as judged
use Rattle.ct_cert.specs.Text.{line, cert_text}
use Rattle.ct_cert.specs.Ranges.{IsCertificate}
use Rattle.ct_cert.specs.Judgement.{judgement}
use Rattle.ct_outside.specs.Outside.{Holds, Rose, Added}
use Rattle.ct_transcript.specs.declared.reply.Reply.{Reply}
use Rattle.ct_transcript.specs.declared.reply.Reply.TheVariants as reply
use Rattle.ct_transcript.specs.declared.reply.Refusal.TheVariants as refusal
use Rattle.ct_transcript.specs.declared.transcript.Transcript.{Transcript}
use Rattle.ct_run.specs.declared.ending.Status.{Status}
use Rattle.ct_run.specs.declared.ending.Status.TheVariants as status
use Rattle.ct_run.specs.Scripts.{IsUnread, IsNoScript}
use Rattle.ct_run.specs.Runs.{empty_transcript, is_memory, Asking, Taking, IsServed, IsWritten, IsWriteFault, IsUntouched, IsNothingDone}

-- the proofs that a reply carries
abbrev pub proofs_of : Reply → List Proof
proofs_of (reply.Certain at plus columns rows) = map (λ r. r.proof) rows
proofs_of (reply.Refused at (refusal.Inconsistent proof)) = proof ∷ []
proofs_of _ = []

-- those of a reply, where it is there
abbrev pub proofs_at : Option Reply → List Proof
proofs_at None = []
proofs_at (Some r) = proofs_of r

-- whether a reply is there, and is want of memory
abbrev pub is_memory_at : Option Reply → Bool
is_memory_at None = false
is_memory_at (Some r) = is_memory r

-- reply K of the first session, counted from 1, where it is there
abbrev pub reply_at : Transcript → ℕ → Option Reply
reply_at t K = option_and_then (λ s. slice_get s.replies (K - 1)) (slice_get t.sessions 0)

-- the certificate of a transcript's words and of the proofs that reply K carries
unfoldable pub certificate_of : Transcript → ℕ → Certificate
certificate_of t K = record { words = t.words; proofs = proofs_at (reply_at t K) }

-- its text, which is written by one call
abbrev pub certificate_lines : Transcript → ℕ → List (List ℕ)
certificate_lines t K = cert_text (certificate_of t K) ∷ []

-- how the certificate of reply K was written
abbrev pub Certified : ℕ → Taking → Transcript → Status → Type 0
Certified K k t status.Done = IsWritten k (certificate_lines t K) × (0 < length (proofs_at (reply_at t K)))
Certified K k t status.Refused = IsWritten k (certificate_lines t K) × (proofs_at (reply_at t K) ≡ []) × (is_memory_at (reply_at t K) ≡ false)
Certified K k t status.WriteFault = IsWriteFault k (certificate_lines t K)
Certified K k t status.Memory = IsUntouched k
Certified K k t status.Words = ⊥
Certified K k t status.ReadFault = ⊥
Certified K k t status.Script = ⊥

-- what was done for the certificate of reply K to the script of a file, on a log of 262,144 words
abbrev pub ProvePromise : ℕ → List ℕ → Asking → Taking → Status → Transcript → Type 0
ProvePromise K file a k status.Done t = IsServed 262144 (file ∷ []) a t × Certified K k t status.Done
ProvePromise K file a k status.Refused t = IsServed 262144 (file ∷ []) a t × Certified K k t status.Refused
ProvePromise K file a k status.WriteFault t = IsServed 262144 (file ∷ []) a t × Certified K k t status.WriteFault
ProvePromise K file a k status.Memory t = IsNothingDone k t ⊎ (IsServed 262144 (file ∷ []) a t × Certified K k t status.Memory)
ProvePromise K file a k status.ReadFault t = IsNothingDone k t × IsUnread a.held a.asked a.asked' (file ∷ []) × Rose a.faults a.faults'
ProvePromise K file a k status.Script t = IsNothingDone k t × IsNoScript a.held a.asked a.asked' (file ∷ [])
ProvePromise K file a k status.Words t = ⊥

-- the greatest number of bytes of a certificate that is checked
abbrev pub CERTIFICATE_BYTES : ℕ
CERTIFICATE_BYTES = 67108864

-- a certificate whose text has not too many bytes
pub record IsSmall (c : Certificate) : Type 0 where
  pub fits : IsCertificate c
  pub short : length (cert_text c) ≤ CERTIFICATE_BYTES

-- bytes are the text of no such certificate
abbrev pub IsNoCertificate : List ℕ → Type 0
IsNoCertificate bytes = (c : Certificate) → IsSmall c → cert_text c ≡ bytes → ⊥

-- the file was asked, and this is its certificate: where the source tells, its text is held under the file's name
pub record IsCertificateOf (file : List ℕ) (a : Asking) (c : Certificate) : Type 0 where
  pub small : IsSmall c
  pub held : Holds a.held file (cert_text c)
  pub asked : Added a.asked a.asked' (file ∷ [])

-- the file was asked, and holds no certificate: where the source tells, the bytes under the file's name are none's
pub record IsOfNoCertificate (file : List ℕ) (a : Asking) : Type 0 where
  pub held : IfSome a.held (λ held. MatchOption (held file) ⊥ IsNoCertificate)
  pub asked : Added a.asked a.asked' (file ∷ [])

-- the line of a judgement of a certificate with so many proofs
abbrev pub verdict : ℕ → Judgement → List ℕ
verdict proofs judged.Accepted = line (codes "accepted " ++ decimal proofs)
verdict proofs (judged.BadWords place) = line (codes "rejected words at " ++ decimal place)
verdict proofs (judged.Rejected proof) = line (codes "rejected proof " ++ decimal proof)

-- what is said of a certificate, which is written by one call
abbrev pub verdict_lines : Certificate → List (List ℕ)
verdict_lines c = verdict (length c.proofs) (judgement c) ∷ []

-- how the judgement of a certificate was written
abbrev pub Judged : Certificate → Taking → Status → Type 0
Judged c k status.Done = IsWritten k (verdict_lines c) × (judgement c ≡ judged.Accepted)
Judged c k status.Refused = IsWritten k (verdict_lines c) × (judgement c ≢ judged.Accepted)
Judged c k status.WriteFault = IsWriteFault k (verdict_lines c)
Judged c k status.Memory = IsUntouched k
Judged c k status.Words = ⊥
Judged c k status.ReadFault = ⊥
Judged c k status.Script = ⊥

-- what was done for the certificate of a file; no session ran
abbrev pub CheckPromise : List ℕ → Asking → Taking → Status → Transcript → Type 0
CheckPromise file a k status.Done t = (t ≡ empty_transcript) × (c : Certificate) × IsCertificateOf file a c × Judged c k status.Done
CheckPromise file a k status.Refused t = (t ≡ empty_transcript) × (c : Certificate) × IsCertificateOf file a c × Judged c k status.Refused
CheckPromise file a k status.WriteFault t = (t ≡ empty_transcript) × (c : Certificate) × IsCertificateOf file a c × Judged c k status.WriteFault
CheckPromise file a k status.Memory t = IsNothingDone k t
CheckPromise file a k status.ReadFault t = IsNothingDone k t × Added a.asked a.asked' (file ∷ []) × Rose a.faults a.faults'
CheckPromise file a k status.Script t = IsNothingDone k t × IsOfNoCertificate file a
CheckPromise file a k status.Words t = ⊥
