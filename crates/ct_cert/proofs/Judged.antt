-- What words without a bad one, and proofs without a bad one, show.
use Rattle.std.{proofs.Common.{◌≡◌, ℕ, zero, suc, ◌+◌, ◌<◌, Bool, true, false, not, List, [], ◌∷◌, ◌++◌, length, get_or, take, refl, sym, subst, ap, ◌∙◌, arith, inl, inr}, specs.Prelude.{Option, Some, None, slice_get, nat_eq, is_some, MatchOption, Contains, Result, Ok, Err, IsErrAnd, IsErrOf, All}, specs.List.list_any}
use Rattle.std.proofs.lemmas.Bool.{and_parts, cases_Bool, false≢true}
use Rattle.std.proofs.lemmas.List.{length-append}
use Rattle.std.proofs.lemmas.List.Elements.{All-head, All-tail}
use Rattle.std.proofs.lemmas.Bool.Decides.{nat_tests}
use Rattle.std.proofs.lemmas.Map.Views.{Contains-from_any}
use Rattle.ct_word.specs.WellFormed.{is_word_after, each_follows, IsWellFormed}
use Rattle.ct_derivation.{specs.declared.steps.Proof.Proof, specs.Accepts.{accepts, AcceptsProof}, specs.Truth.IsRefuted, proofs.Sound.root_refuted}
use Rattle.ct_cert.specs.declared.certificate.{Certificate.Certificate, CertError.CertError}
use Rattle.ct_cert.specs.declared.judgement.Judgement.TheVariants as judged
use Rattle.ct_cert.specs.declared.certificate.CertError.TheVariants as fault
use Rattle.ct_cert.specs.Judgement.{bad_word, bad_proof, by_faults, judgement, IsSound, IsFirstBadWord, IsFirstBadProof}

faultless : (place proof : Option ℕ) → by_faults place proof ≡ judged.Accepted → (place ≡ None) × (proof ≡ None)
faultless None None e = (refl, refl)
faultless None (Some n) e = absurd (cc)
faultless (Some p) proof e = absurd (cc)

all_follow : (before words : List ℕ) → bad_word before words ≡ None → each_follows before words ≡ true
all_follow before [] e = refl
all_follow before (w ∷ words) e = elim (cases_Bool (is_word_after before w)) [
  | inl good ↦ rw good (all_follow (before ++ w ∷ []) words (rw good at e))
  | inr bad ↦ absurd (let some : Some (length before) ≡ None = rw bad at e in cc)
]

all_refuted : (words : List ℕ) (n : ℕ) (proofs : List Proof) → IsWellFormed words → bad_proof words n proofs ≡ None → (k : ℕ) (d : Proof) → k < length proofs → IsRefuted words (get_or proofs k d).root
all_refuted words n [] wf e k d lt = absurd (omega arith)
all_refuted words n (p ∷ proofs) wf e zero d lt = elim (cases_Bool (accepts words p.root p.derivation)) [
  | inl good ↦ root_refuted words p.root p.derivation wf good
  | inr bad ↦ absurd (let some : Some n ≡ None = rw bad at e in cc)
]
all_refuted words n (p ∷ proofs) wf e (suc k) d lt = elim (cases_Bool (accepts words p.root p.derivation)) [
  | inl good ↦ all_refuted words (n + 1) proofs wf (rw good at e) k d (omega arith)
  | inr bad ↦ absurd (let some : Some n ≡ None = rw bad at e in cc)
]

pub accepted_sound : (c : Certificate) → judgement c ≡ judged.Accepted → IsSound c
unfolding judgement
accepted_sound c e =
    let none = faultless (bad_word [] c.words) (bad_proof c.words 1 c.proofs) e in
    let wf = all_follow [] c.words none.0 in
    record { words = wf; proofs = all_refuted c.words 1 c.proofs wf none.1 }

none_bad : (before words : List ℕ) → each_follows before words ≡ true → bad_word before words ≡ None
none_bad before [] e = refl
none_bad before (w ∷ words) e =
    let parts = and_parts (is_word_after before w) (each_follows (before ++ w ∷ []) words) e in
    rw parts.0 (none_bad (before ++ w ∷ []) words parts.1)

none_rejected : (words : List ℕ) (n : ℕ) (proofs : List Proof) → All (AcceptsProof words) proofs → bad_proof words n proofs ≡ None
none_rejected words n [] all = refl
none_rejected words n (p ∷ proofs) all =
    let first : accepts words p.root p.derivation ≡ true = All-head (AcceptsProof words) p proofs all in
    rw first (none_rejected words (n + 1) proofs (All-tail (AcceptsProof words) p proofs all))

-- well formed words and proofs that are accepted over them make a certificate that is
pub sound_accepted : (c : Certificate) → IsWellFormed c.words → All (AcceptsProof c.words) c.proofs → judgement c ≡ judged.Accepted
unfolding judgement
sound_accepted c formed all = rw (none_bad [] c.words formed, none_rejected c.words 1 c.proofs all) refl

-- the first bad word of these is k places on, and those before it follow
record IsBadAfter (before words : List ℕ) (place k : ℕ) : Type 0 where
  at : place ≡ length before + k
  within : k < length words
  good : each_follows before (take k words) ≡ true
  bad : each_follows before (take (suc k) words) ≡ false

bad_after : (before words : List ℕ) (place : ℕ) → bad_word before words ≡ Some place → (k : ℕ) × IsBadAfter before words place k
bad_after before [] place e = absurd (cc)
bad_after before (w ∷ words) place e = elim (cases_Bool (is_word_after before w)) [
  | inl good ↦
      let others = bad_after (before ++ w ∷ []) words place (rw good at e) in (
        suc others.0,
        record {
          at = omega (arith, others.1.at, length-append before (w ∷ []));
          within = omega (arith, others.1.within);
          good = rw good others.1.good;
          bad = rw good others.1.bad;
        },
      )
  | inr bad ↦
      let some : Some (length before) ≡ Some place = rw bad at e in
      let same : length before ≡ place = cc in
      (0, record { at = omega arith; within = omega arith; good = refl; bad = rw bad refl })
]

no_words : (place found : Option ℕ) (p : ℕ) → by_faults place found ≡ judged.BadWords p → place ≡ Some p
no_words (Some q) found p e = cc
no_words None (Some n) p e = absurd (cc)
no_words None None p e = absurd (cc)

pub bad_words : (c : Certificate) (place : ℕ) → judgement c ≡ judged.BadWords place → IsFirstBadWord c.words place
unfolding judgement
bad_words c place e =
    let found = bad_after [] c.words place (no_words (bad_word [] c.words) (bad_proof c.words 1 c.proofs) place e) in
    let at : place ≡ found.0 = omega (arith, found.1.at) in
    record {
      within = omega (arith, found.1.within);
      before = ap (λ k. each_follows [] (take k c.words)) at ∙ found.1.good;
      here = λ wf. false≢true (sym found.1.bad ∙ ap (λ k. each_follows [] (take k c.words)) (next place found.0 at) ∙ wf);
    }
  where
    next : (p k : ℕ) → p ≡ k → suc k ≡ p + 1
    next p k same = omega arith

-- the first bad one of these proofs is k places on, and those before it are accepted
record IsBadProofAfter (words : List ℕ) (proofs : List Proof) (n number k : ℕ) : Type 0 where
  at : number ≡ n + k
  within : k < length proofs
  good : (j : ℕ) (d : Proof) → j < k → AcceptsProof words (get_or proofs j d)
  bad : (d : Proof) → AcceptsProof words (get_or proofs k d) → ⊥

bad_proof_after : (words : List ℕ) (proofs : List Proof) (n number : ℕ) → bad_proof words n proofs ≡ Some number → (k : ℕ) × IsBadProofAfter words proofs n number k
bad_proof_after words [] n number e = absurd (cc)
bad_proof_after words (p ∷ proofs) n number e = elim (cases_Bool (accepts words p.root p.derivation)) [
  | inl good ↦
      let others = bad_proof_after words proofs (n + 1) number (rw good at e) in (
        suc others.0,
        record {
          at = omega (arith, others.1.at);
          within = omega (arith, others.1.within);
          good = earlier words p proofs others.0 good others.1.good;
          bad = others.1.bad;
        },
      )
  | inr bad ↦
      let some : Some n ≡ Some number = rw bad at e in
      let same : n ≡ number = cc in
      (0, record { at = omega arith; within = omega arith; good = λ j d lt. absurd (omega arith); bad = λ d acc. false≢true (sym bad ∙ acc) })
]
  where
    earlier : (words : List ℕ) (p : Proof) (proofs : List Proof) (k : ℕ) → AcceptsProof words p → ((j : ℕ) (d : Proof) → j < k → AcceptsProof words (get_or proofs j d))
        → (j : ℕ) (d : Proof) → j < suc k → AcceptsProof words (get_or (p ∷ proofs) j d)
    earlier words p proofs k own others zero d lt = own
    earlier words p proofs k own others (suc j) d lt = others j d (omega arith)

no_proof : (place found : Option ℕ) (n : ℕ) → by_faults place found ≡ judged.Rejected n → (place ≡ None) × (found ≡ Some n)
no_proof (Some q) found n e = absurd (cc)
no_proof None (Some m) n e = (refl, cc)
no_proof None None n e = absurd (cc)

pub bad_proofs : (c : Certificate) (number : ℕ) → judgement c ≡ judged.Rejected number → IsFirstBadProof c number
unfolding judgement
bad_proofs c number e =
    let faults = no_proof (bad_word [] c.words) (bad_proof c.words 1 c.proofs) number e in
    let found = bad_proof_after c.words c.proofs 1 number faults.1 in
    record {
      words = all_follow [] c.words faults.0;
      within = (omega (arith, found.1.at), omega (arith, found.1.at, found.1.within));
      before = λ k d lt. found.1.good k d (omega (arith, found.1.at));
      here = λ k d same acc. found.1.bad d (subst (λ j. AcceptsProof c.words (get_or c.proofs j d)) (place k found.0 number same found.1.at) acc);
    }
  where
    place : (k j n : ℕ) → k + 1 ≡ n → n ≡ 1 + j → k ≡ j
    place k j n same at = omega arith

any_at : (words : List ℕ) (place w : ℕ) → slice_get words place ≡ Some w → list_any (nat_eq w) words ≡ true
any_at [] place w e = absurd (cc)
any_at (x ∷ words) zero w e = let same : x ≡ w = cc in let own : nat_eq w x ≡ true = grind (arith, nat_tests) in rw own refl
any_at (x ∷ words) (suc place) w e = let others = any_at words place w e in elim (cases_Bool (nat_eq w x)) [ inl own ↦ rw own refl | inr own ↦ rw own others ]

same_word : (x y : ℕ) → nat_eq x y ≡ true → x ≡ y
same_word x y e = grind (arith, nat_tests)

-- whether a word is not found, and whether it is not among these
pub none_found : (o : Option ℕ) (b : Bool) (w : ℕ) (words : List ℕ) → MatchOption o (¬ Contains words w) (λ place. slice_get words place ≡ Some w) → is_some o ≡ not b
    → b ≡ not (list_any (nat_eq w) words)
none_found None true w words none e = elim (cases_Bool (list_any (nat_eq w) words)) [
  | inl some ↦ absurd (none (Contains-from_any {eq = nat_eq} same_word w words some))
  | inr is ↦ rw is refl
]
none_found None false w words none e = absurd (cc)
none_found (Some place) true w words at e = absurd (cc)
none_found (Some place) false w words at e = let is = any_at words place w at in rw is refl

-- an error for want of memory is no other
pub is_memory : {T : Type 0} (r : Result T CertError) → IsErrAnd r (λ e. e ≡ fault.Memory) → IsErrOf r fault.NotACertificate → ⊥
is_memory (Ok t) is other = is
is_memory (Err e) is other = cc
