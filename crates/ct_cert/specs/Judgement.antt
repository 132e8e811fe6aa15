-- What is said of a certificate: the first word that may not stand, else the first proof that is not accepted.
use Rattle.std.specs.Prelude.{◌≡◌, ℕ, ◌+◌, ◌<◌, ◌≤◌, take, slice_index_or, List, [], ◌∷◌, ◌++◌, length, Option, Some, None, All, if◌then◌else◌}
use Rattle.ct_word.specs.WellFormed.{is_word_after, IsWellFormed}
use Rattle.ct_derivation.specs.declared.steps.Proof.{Proof}
use Rattle.ct_derivation.specs.Accepts.{accepts, AcceptsProof}
use Rattle.ct_derivation.specs.Truth.{IsRefuted}
use Rattle.ct_cert.specs.declared.certificate.Certificate.{Certificate}
use Rattle.ct_cert.specs.declared.judgement.Judgement.{Judgement}
use Rattle.ct_cert.specs.declared.judgement.Judgement.TheVariants as judged

-- the first place of these words that may not follow the words before it
abbrev pub bad_word : List ℕ → List ℕ → Option ℕ
bad_word before [] = None
bad_word before (w ∷ ws) = if is_word_after before w then bad_word (before ++ w ∷ []) ws else Some (length before)

-- the number of the first of these proofs that is not accepted, counted from n
abbrev pub bad_proof : List ℕ → ℕ → List Proof → Option ℕ
bad_proof words n [] = None
bad_proof words n (p ∷ ps) = if accepts words p.root p.derivation then bad_proof words (n + 1) ps else Some n

abbrev pub by_faults : Option ℕ → Option ℕ → Judgement
by_faults (Some place) _ = judged.BadWords place
by_faults None (Some proof) = judged.Rejected proof
by_faults None None = judged.Accepted

-- the judgement of a certificate
unfoldable pub judgement : Certificate → Judgement
judgement c = by_faults (bad_word [] c.words) (bad_proof c.words 1 c.proofs)

-- the words are well formed, and the root of each proof is false at every valuation
pub record IsSound (c : Certificate) : Type 0 where
  pub words : IsWellFormed c.words
  pub proofs : All (λ p. IsRefuted c.words p.root) c.proofs

-- the word at a place may not follow the words before it, and these are well formed
pub record IsFirstBadWord (words : List ℕ) (place : ℕ) : Type 0 where
  pub within : place < length words
  pub before : IsWellFormed (take place words)
  pub here : IsWellFormed (take (place + 1) words) → ⊥

-- the words are well formed, and the proof of this number is not accepted, counted from 1; each earlier one is
pub record IsFirstBadProof (c : Certificate) (number : ℕ) : Type 0 where
  pub words : IsWellFormed c.words
  pub within : (1 ≤ number) × (number ≤ length c.proofs)
  pub before : (k : ℕ) (d : Proof) → k + 1 < number → AcceptsProof c.words (slice_index_or c.proofs k d)
  pub here : (k : ℕ) (d : Proof) → k + 1 ≡ number → AcceptsProof c.words (slice_index_or c.proofs k d) → ⊥
