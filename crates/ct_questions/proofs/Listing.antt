-- Candidates, and what right decisions of their questions list.
use Rattle.std.proofs.Common.{◌≡◌, ◌<◌, ◌+◌, ℕ, Bool, true, false, ◌||◌, List, [], ◌∷◌, ◌++◌, append-nil, get_or, length, take, arith, refl, ap, sym, subst, ◌∙◌, if◌then◌else◌}
use Rattle.std.{specs.Prelude.{All, IsTrue, filter}, specs.List.{AllZip, IsDistinct}, proofs.lemmas.Bool.{false≢true}, proofs.lemmas.List.{append_assoc, take_more}}
use Rattle.std.proofs.lemmas.{List.length-take-le, List.Elements.{All-cons, All-head, All-nil, All-push, All-tail, All-weaker}}
use Rattle.ct_word.{specs.declared.values.CRow.CRow, specs.declared.values.Value.Value, specs.Value.{World, same_tuple}, specs.Condition.holds_at}
use Rattle.ct_word.{specs.Reading.condition_at, specs.Sublist.{IsSublist, ended, left_out, taken}, specs.WellFormed.IsWellFormed, proofs.Alike.tuple_decides}
use Rattle.ct_query.{specs.Database.has_tuple, proofs.Sublists.{nothing_of, sublist_of_sublist}}
use Rattle.ct_decide.specs.declared.deciding.Decision.{Decision}
use Rattle.ct_operators.{specs.Tables.{firsts, value_of_rows}, proofs.{Firsts.filtered_part, Selecting.distinct_part}}
use Rattle.ct_rewrite.specs.declared.answer.CertainRow.{CertainRow}
use Rattle.ct_certain.specs.{Answered.{IsRefutation, IsSettled}, Certain.{IsCutProof, IsInAll, ListsCertain, RefutesMissing, is_missing, tuples_in}}
use Rattle.ct_certain.specs.{Missing.{IsRootOf, IsSeen, is_in_each}, declared.striking.Seen.Seen}
use Rattle.ct_certain.proofs.{Asking.asks_later, Candidates.{has_first, lacked_by, missing_once}, Certainties.each_in_all}
use Rattle.ct_questions.specs.{Candidates.{AreCandidates, IsCandidate, proof_of, tuples_of}, declared.tuples.Candidate.Candidate}
use mathlib.Core.List.{IsPrefix}
use Rattle.ct_decide.specs.declared.deciding.Decision.TheVariants as decision

-- as words are added
pub candidates_later : (words old new : List ℕ) (global : ℕ) (rs : List CRow) → IsPrefix old new → IsWellFormed new → (cs : List Candidate) → All (IsCandidate words old global rs) cs → All (IsCandidate words new global rs) cs
candidates_later words old new global rs longer formed cs =
    All-weaker (IsCandidate words old global rs) (IsCandidate words new global rs) (λ c. asks_later old new longer formed c.root (is_missing words global rs c.tuple)) cs

-- one more candidate
pub candidates_more : (words old new : List ℕ) (global : ℕ) (rs : List CRow) → IsPrefix old new → IsWellFormed new → (cs after : List Candidate) (c : Candidate) → after ≡ cs ++ c ∷ []
    → All (IsCandidate words old global rs) cs → IsCandidate words new global rs c → All (IsCandidate words new global rs) after
candidates_more words old new global rs longer formed cs after c put all is =
    subst (All (IsCandidate words new global rs)) (sym put) (All-push (IsCandidate words new global rs) cs c (candidates_later words old new global rs longer formed cs all) is)

-- a tuple that a test left out
filter_left : (p : List Value → Bool) (ts : List (List Value)) (t : List Value) → has_tuple ts t ≡ true → has_tuple (filter p ts) t ≡ false → p t ≡ false
filter_left p [] t h f = absurd (false≢true h)
filter_left p (x ∷ ts) t h f = by (p x) (same_tuple x t) refl refl h f (filter_left p ts t) where
  by : (b s : Bool) → p x ≡ b → same_tuple x t ≡ s → (s || has_tuple ts t) ≡ true → has_tuple (if b then x ∷ filter p ts else filter p ts) t ≡ false
      → (has_tuple ts t ≡ true → has_tuple (filter p ts) t ≡ false → p t ≡ false) → p t ≡ false
  by true true e q h f rest = absurd (false≢true (sym f ∙ ap (λ b. b || has_tuple (filter p ts) t) q))
  by true false e q h f rest = rest h (sym (ap (λ b. b || has_tuple (filter p ts) t) q) ∙ f)
  by false true e q h f rest = ap p (sym ((tuple_decides x t).0 q)) ∙ e
  by false false e q h f rest = rest h f

-- the tuples at a kept world that are there in each of some worlds
pub candidates_are : (words now : List ℕ) (global : ℕ) (rs : List CRow) (kept : World) (ss : List Seen) (ts : List (List Value)) (cs : List Candidate) → ts ≡ firsts same_tuple (value_of_rows words kept rs)
    → IsDistinct same_tuple ts → IsTrue (holds_at kept (condition_at words global)) → All (IsSeen words global rs) ss → tuples_of cs ≡ filter (is_in_each ss) ts → All (IsCandidate words now global rs) cs
    → AreCandidates words now global rs kept cs
candidates_are words now global rs kept ss ts cs are once holds seen these roots = record {
  holds = holds;
  roots = roots;
  distinct = subst (IsDistinct same_tuple) (sym these) (distinct_part same_tuple (filter (is_in_each ss) ts) ts (filtered_part (is_in_each ss) ts) once);
  ordered = subst (λ xs. IsSublist xs (firsts same_tuple (value_of_rows words kept rs))) (sym these) (subst (IsSublist (filter (is_in_each ss) ts)) are (filtered_part (is_in_each ss) ts));
  left = λ t h f. lacked_by words global rs ss t seen
      (filter_left (is_in_each ss) ts t (ap (λ l. has_tuple l t) are ∙ has_first (value_of_rows words kept rs) t ∙ h) (ap (λ l. has_tuple l t) (sym these) ∙ f));
}

-- no world lacks one, where none is known
pub none_left_out : (ts : List (List Value)) → filter (is_in_each []) ts ≡ ts
none_left_out [] = refl
none_left_out (t ∷ ts) = ap (λ l. t ∷ l) (none_left_out ts)

-- what is listed of candidates
abbrev pub proofs_of : List Candidate → List Decision → List CertainRow
proofs_of [] ds = []
proofs_of (c ∷ cs) [] = []
proofs_of (c ∷ cs) (d ∷ ds) = proof_of c d ++ proofs_of cs ds

proofs_push : (cs : List Candidate) (ds : List Decision) (c : Candidate) (d : Decision) → length cs ≡ length ds → proofs_of (cs ++ c ∷ []) (ds ++ d ∷ []) ≡ proofs_of cs ds ++ proof_of c d
proofs_push [] [] c d e = append-nil (proof_of c d)
proofs_push (x ∷ cs) (y ∷ ds) c d e = ap (λ l. proof_of x y ++ l) (proofs_push cs ds c d (omega (arith, e))) ∙ sym (append_assoc (proof_of x y) (proofs_of cs ds) (proof_of c d))
proofs_push [] (y ∷ ds) c d e = absurd (omega (arith, e))
proofs_push (x ∷ cs) [] c d e = absurd (omega (arith, e))

-- one more of them
pub proofs_turn : (cs : List Candidate) (ds : List Decision) (i : ℕ) (c : Candidate) (d : Decision) (list new : List CertainRow) → i < length cs → i < length ds → c ≡ get_or cs i c → d ≡ get_or ds i d
    → list ≡ proofs_of (take i cs) (take i ds) → new ≡ list ++ proof_of c d → new ≡ proofs_of (take (i + 1) cs) (take (i + 1) ds)
proofs_turn cs ds i c d list new in_cs in_ds e f so_far put =
    let done : take i cs ++ c ∷ [] ≡ take (i + 1) cs = ap (λ x. take i cs ++ x ∷ []) e ∙ sym (take_more cs i c in_cs) in
    let decided : take i ds ++ d ∷ [] ≡ take (i + 1) ds = ap (λ x. take i ds ++ x ∷ []) f ∙ sym (take_more ds i d in_ds) in
    let long : length (take i cs) ≡ length (take i ds) = length-take-le i cs (omega (arith, in_cs)) ∙ sym (length-take-le i ds (omega (arith, in_ds))) in
    put ∙ ap (λ l. l ++ proof_of c d) so_far ∙ sym (proofs_push (take i cs) (take i ds) c d long) ∙ (λ k. proofs_of (done k) (decided k))

-- a right decision for each candidate
abbrev pub AreSettled : List ℕ → List Candidate → List Decision → Type 0
AreSettled now cs ds = AllZip (λ c d. IsSettled now c.root d) cs ds

module _ (now : List ℕ) where
  -- each listed derivation is right
  derived : (cs : List Candidate) (ds : List Decision) → AreSettled now cs ds → All (λ r. IsRefutation now r.proof.root r.proof.derivation) (proofs_of cs ds)
  derived [] [] is = All-nil _
  derived (c ∷ cs) (decision.World v ∷ ds) is = derived cs ds is.1
  derived (c ∷ cs) (decision.Refuted d ∷ ds) is = All-cons (λ r. IsRefutation now r.proof.root r.proof.derivation) _ _ is.0 (derived cs ds is.1)
  derived [] (d ∷ ds) is = absurd is
  derived (c ∷ cs) [] is = absurd is

  pub all_cut : (cs : List Candidate) (ds : List Decision) (list : List CertainRow) → AreSettled now cs ds → list ≡ proofs_of cs ds → All (λ r. IsCutProof now r.proof) list
  all_cut cs ds list is e = subst (All (λ r. IsCutProof now r.proof)) (sym e)
      (All-weaker (λ r. IsRefutation now r.proof.root r.proof.derivation) (λ r. IsCutProof now r.proof) (λ r d. d.1) (proofs_of cs ds) (derived cs ds is))

  module _ (old : List ℕ) (global : ℕ) (rs : List CRow) where
    -- for the root of its tuple
    rooted : (cs : List Candidate) (ds : List Decision) → All (IsCandidate old now global rs) cs → All (λ r. IsRootOf old now global rs r.tuple r.proof.root) (proofs_of cs ds)
    rooted [] ds all = All-nil _
    rooted (c ∷ cs) [] all = All-nil _
    rooted (c ∷ cs) (decision.World v ∷ ds) all = rooted cs ds (All-tail (IsCandidate old now global rs) c cs all)
    rooted (c ∷ cs) (decision.Refuted d ∷ ds) all =
        All-cons (λ r. IsRootOf old now global rs r.tuple r.proof.root) _ _ (All-head (IsCandidate old now global rs) c cs all) (rooted cs ds (All-tail (IsCandidate old now global rs) c cs all))

    part_listed : (cs : List Candidate) (ds : List Decision) → IsSublist (tuples_in (proofs_of cs ds)) (tuples_of cs)
    part_listed [] ds = ended
    part_listed (c ∷ cs) [] = nothing_of (tuples_of (c ∷ cs))
    part_listed (c ∷ cs) (decision.World v ∷ ds) = left_out (part_listed cs ds)
    part_listed (c ∷ cs) (decision.Refuted d ∷ ds) = taken (part_listed cs ds)

    -- a candidate that is certain is listed
    all_listed : (cs : List Candidate) (ds : List Decision) → AreSettled now cs ds → All (IsCandidate old now global rs) cs → (t : List Value) → IsInAll old global rs t → has_tuple (tuples_of cs) t ≡ true
        → has_tuple (tuples_in (proofs_of cs ds)) t ≡ true
    all_listed [] ds is all t certain h = absurd (false≢true h)
    all_listed (c ∷ cs) [] is all t certain h = absurd is
    all_listed (c ∷ cs) (decision.World v ∷ ds) is all t certain h = by (same_tuple c.tuple t) refl h (all_listed cs ds is.1 (All-tail (IsCandidate old now global rs) c cs all) t certain) where
      by : (b : Bool) → same_tuple c.tuple t ≡ b → (b || has_tuple (tuples_of cs) t) ≡ true → (has_tuple (tuples_of cs) t ≡ true → has_tuple (tuples_in (proofs_of cs ds)) t ≡ true) → has_tuple (tuples_in (proofs_of cs ds)) t ≡ true
      by true e h rest = absurd (missing_once old global rs c.tuple (v, sym ((All-head (IsCandidate old now global rs) c cs all).holds v) ∙ is.0) (subst (IsInAll old global rs) (sym ((tuple_decides c.tuple t).0 e)) certain))
      by false e h rest = rest h
    all_listed (c ∷ cs) (decision.Refuted d ∷ ds) is all t certain h = by (same_tuple c.tuple t) h (all_listed cs ds is.1 (All-tail (IsCandidate old now global rs) c cs all) t certain) where
      by : (b : Bool) → (b || has_tuple (tuples_of cs) t) ≡ true → (has_tuple (tuples_of cs) t ≡ true → has_tuple (tuples_in (proofs_of cs ds)) t ≡ true) → (b || has_tuple (tuples_in (proofs_of cs ds)) t) ≡ true
      by true h rest = refl
      by false h rest = rest h

    -- exactly the certain tuples
    pub lists_certain : IsWellFormed now → (kept : World) (cs : List Candidate) (ds : List Decision) (list : List CertainRow) → AreSettled now cs ds → list ≡ proofs_of cs ds → AreCandidates old now global rs kept cs
        → ListsCertain old now global rs kept list
    lists_certain formed kept cs ds list is e are = subst (ListsCertain old now global rs kept) (sym e) (record {
      distinct = distinct_part same_tuple (tuples_in (proofs_of cs ds)) (tuples_of cs) (part_listed cs ds) are.distinct;
      exact = λ t. (each_in_all old global rs now formed (proofs_of cs ds) refuting t, λ certain. all_listed cs ds is are.roots t certain (there t certain (has_tuple (tuples_of cs) t) refl));
      refuted = refuting;
      ordered = sublist_of_sublist (tuples_in (proofs_of cs ds)) (tuples_of cs) (firsts same_tuple (value_of_rows old kept rs)) (part_listed cs ds) are.ordered;
    }) where
      refuting : All (RefutesMissing old now global rs) (proofs_of cs ds)
      refuting = λ k d lt. record { accepted = (derived cs ds is k d lt).0; root = (rooted cs ds are.roots k d lt).holds }

      there : (t : List Value) → IsInAll old global rs t → (b : Bool) → has_tuple (tuples_of cs) t ≡ b → has_tuple (tuples_of cs) t ≡ true
      there t certain true h = h
      there t certain false h = absurd (missing_once old global rs t (are.left t (certain kept are.holds) h) certain)
