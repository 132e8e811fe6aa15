-- What the analysis of a false clause leaves follows from the log.
use Rattle.std.proofs.Common.{◌≡◌, ℕ, suc, ◌<◌, Bool, true, false, ◌||◌, List, [], ◌∷◌, ◌++◌, Option, Some, None, length, refl, ap, ◌∙◌, sym, subst, inl, inr, ◌⊎◌, neg_ℤ, ℤ, arith, replicate, if◌then◌else◌}
use Rattle.std.{specs.Prelude.{slice_get, nat_lt}, specs.Ordering.int_eq, proofs.lemmas.Option.slice_get-get_or}
use Rattle.std.proofs.lemmas.List.Folds.{list_any-append, list_all-append}
use Rattle.std.proofs.lemmas.Bool.{and_parts, and_from, or_cases, or_left, or_right, false≢true, cases_Bool, cond-true, cond-false, cond_both, false_from_ne_true}
use Rattle.std.proofs.lemmas.Bool.Decides.{Decides-ltb}
use Rattle.ct_trail.specs.{declared.assignment.Truth.Truth, declared.marks.Mark.Mark, declared.trail.Put.Put, Literal.{Clause, numbered, has, place_of}}
use Rattle.ct_trail.specs.Assignment.{truth_of, is_false, assigned, falsified, falsified_but, IsOpen}
use Rattle.ct_trail.specs.{Log.clause_at, Trail.{after, truths_of, IsPutBy}, Analysis.ArePut, Marks.{mark_at, is_marked, is_kept, is_resolved, all_marked, kept_of, listed, reasons_of, IsMet, IsClosed}}
use Rattle.ct_trail.proofs.{Literals.{same_is, same_refl, has_more}, Assignments.{false_before, open_place}}
use Rattle.ct_trail.proofs.{Marked.{place_opposite, mark_opposite, each_of}, Trails.{IsFree, IsRun, run_of, put_open, free_before, none_false}}
use Rattle.ct_derivation.specs.Propagation.{Look, Unfit, Falsified, Forces, look, look_at, meets, are_hints, follows}
use Rattle.ct_trail.specs.declared.assignment.Truth.TheVariants as truth
use Rattle.ct_trail.specs.declared.marks.Mark.TheVariants as mark

-- two literals are the same, or not
pub same_tells : (l m : ℤ) → ((int_eq l m ≡ true) × (l ≡ m)) ⊎ (int_eq l m ≡ false)
same_tells l m = elim (cases_Bool (int_eq l m)) [ inl s ↦ inl (s, same_is l m s) | inr s ↦ inr s ]

pub but_each : (ts : List Truth) (l : ℤ) (c : Clause) (m : ℤ) → falsified_but ts l c ≡ true → has c m ≡ true → int_eq l m ≡ false → is_false (truth_of ts m) ≡ true
unfolding falsified_but has
but_each ts l [] m e h n = absurd (false≢true h)
but_each ts l (x ∷ c) m e h n = grind (arith, same_tells m x, but_each ts l c m)

pub false_each : (ts : List Truth) (c : Clause) (m : ℤ) → falsified ts c ≡ true → has c m ≡ true → is_false (truth_of ts m) ≡ true
unfolding falsified has
false_each ts [] m e h = absurd (false≢true h)
false_each ts (x ∷ c) m e h =
    let parts = and_parts (is_false (truth_of ts x)) _ e in
    elim (or_cases (int_eq m x) (has c m) h) [ inl s ↦ ap (λ y. is_false (truth_of ts y)) (same_is m x s) ∙ parts.0 | inr t ↦ false_each ts c m parts.1 t ]

-- each literal is l or among the list
record Nearly (ls : Clause) (l : ℤ) (c : Clause) : Type 0 where
  at : (m : ℤ) → has c m ≡ true → int_eq l m ≡ false → has ls m ≡ true

nearly_rest : (ls : Clause) (l x : ℤ) (c : Clause) → Nearly ls l (x ∷ c) → Nearly ls l c
unfolding has
nearly_rest ls l x c n = record { at = λ m h s. n.at m (or_right (int_eq m x) _ h) s }

nearly_first : (ls : Clause) (l x : ℤ) (c : Clause) → Nearly ls l (x ∷ c) → int_eq l x ≡ false → has ls x ≡ true
unfolding has
nearly_first ls l x c n s = n.at x (or_left _ _ (same_refl x)) s

look_all : (ls c : Clause) → ((m : ℤ) → has c m ≡ true → has ls m ≡ true) → look numbered ls None c ≡ Falsified
unfolding has
look_all ls [] all = refl
look_all ls (x ∷ c) all =
    cond-true (has ls x) _ _ (all x (or_left _ _ (same_refl x))) ∙ look_all ls c (λ m h. all m (or_right (int_eq m x) _ h))

module _ (ls : Clause) (l : ℤ) (out : has ls l ≡ false) (opposite_out : has ls (neg_ℤ l) ≡ false) where
  look_again : (c : Clause) → Nearly ls l c → look numbered ls (Some l) c ≡ Forces l
  unfolding has
  look_again [] n = refl
  look_again (x ∷ c) n = grind (arith, same_tells l x, nearly_first ls l x c n, look_again c (nearly_rest ls l x c n))

  look_unit : (c : Clause) → Nearly ls l c → has c l ≡ true → look numbered ls None c ≡ Forces l
  unfolding has
  look_unit [] n h = absurd (false≢true h)
  look_unit (x ∷ c) n h =
      grind (arith, same_tells l x, nearly_first ls l x c n, look_again c (nearly_rest ls l x c n), look_unit c (nearly_rest ls l x c n))

-- the test of hints, by what it finds at the first
abbrev pub after_look : List Clause → Clause → Look ℤ → List ℕ → Bool
after_look log ls k hs = elim k [ Unfit ↦ false | Falsified ↦ true | Forces l ↦ meets numbered log (ls ++ neg_ℤ l ∷ []) hs ]

pub meets_first : (log : List Clause) (ls : Clause) (a : ℕ) (hs : List ℕ) (k : Look ℤ) → a < length log → look numbered ls None (clause_at log a) ≡ k → meets numbered log ls (a ∷ hs) ≡ after_look log ls k hs
meets_first log ls a hs k lt e = ap (λ x. after_look log ls x hs) (ap (look_at numbered ls) (slice_get-get_or log a [] lt) ∙ e)

pub has_append : (c d : Clause) (m : ℤ) → has (c ++ d) m ≡ (has c m || has d m)
unfolding has
has_append c d m = list_any-append (int_eq m) c d

has_one : (l m : ℤ) → has (l ∷ []) m ≡ true → m ≡ l
unfolding has
has_one l m h = elim (or_cases (int_eq m l) false h) [ inl s ↦ same_is m l s | inr f ↦ absurd (false≢true f) ]

has_itself : (l : ℤ) → has (l ∷ []) l ≡ true
unfolding has
has_itself l = or_left _ _ (same_refl l)

module _ (marks : List Mark) where
  -- what is kept of a trail has variables that are kept
  pub kept_each : (ps : List Put) (m : ℤ) → has (kept_of marks ps) m ≡ true → is_kept (mark_at marks m) ≡ true
  unfolding has
  kept_each [] m h = absurd (false≢true h)
  kept_each (p ∷ ps) m h =
      let last = if is_kept (mark_at marks p.literal) then neg_ℤ p.literal ∷ [] else [] in
      elim (or_cases (has (kept_of marks ps) m) (has last m) (sym (has_append (kept_of marks ps) last m) ∙ h)) [
        | inl t ↦ kept_each ps m t
        | inr t ↦ elim (cases_Bool (is_kept (mark_at marks p.literal))) [
          | inl k ↦ ap (λ x. is_kept (mark_at marks x)) (has_one (neg_ℤ p.literal) m (ap (λ x. has x m) (sym (cond-true _ (neg_ℤ p.literal ∷ []) [] k)) ∙ t)) ∙ ap is_kept (mark_opposite marks p.literal) ∙ k
          | inr k ↦ absurd (false≢true (ap (λ x. has x m) (sym (cond-false _ (neg_ℤ p.literal ∷ []) [] k)) ∙ t))
        ]
      ]

  kept_rest : (p : Put) (ps : List Put) (m : ℤ) → has (kept_of marks ps) m ≡ true → has (kept_of marks (p ∷ ps)) m ≡ true
  kept_rest p ps m h = has_append (kept_of marks ps) (if is_kept (mark_at marks p.literal) then neg_ℤ p.literal ∷ [] else []) m ∙ or_left _ _ h

  kept_first : (p : Put) (ps : List Put) → is_kept (mark_at marks p.literal) ≡ true → has (kept_of marks (p ∷ ps)) (neg_ℤ p.literal) ≡ true
  kept_first p ps k =
      has_append (kept_of marks ps) (if is_kept (mark_at marks p.literal) then neg_ℤ p.literal ∷ [] else []) (neg_ℤ p.literal)
      ∙ or_right _ _ (ap (λ x. has x (neg_ℤ p.literal)) (cond-true _ (neg_ℤ p.literal ∷ []) [] k) ∙ has_itself (neg_ℤ p.literal))

kept_not_resolved : (k : Mark) → is_kept k ≡ true → is_resolved k ≡ true → ⊥
kept_not_resolved mark.Clear a b = false≢true a
kept_not_resolved mark.Kept a b = false≢true b
kept_not_resolved mark.Resolved a b = false≢true a

marked_is : (k : Mark) → is_marked k ≡ true → is_resolved k ≡ false → is_kept k ≡ true
marked_is mark.Clear a b = a
marked_is mark.Kept a b = refl
marked_is mark.Resolved a b = sym b

module _ (log : List Clause) (marks : List Mark) where
  -- what the test of hints has taken as false once it is past a front of the trail, which gives these truths
  record Knows (ts : List Truth) (ls : Clause) (rest : List Put) : Type 0 where
    known : (m : ℤ) → is_false (truth_of ts m) ≡ true → is_marked (mark_at marks m) ≡ true → has ls m ≡ true
    apart : (m : ℤ) → has ls m ≡ true → is_resolved (mark_at marks m) ≡ true → IsFree ts (place_of m) → ⊥
    ahead : (m : ℤ) → has (kept_of marks rest) m ≡ true → has ls m ≡ true

  starts : (vars : ℕ) (trail : List Put) → Knows (replicate vars truth.Open) (kept_of marks trail) trail
  starts vars trail = record {
    known = λ m f k. absurd (none_false vars m f);
    apart = λ m h r f. kept_not_resolved (mark_at marks m) (kept_each marks trail m h) r;
    ahead = λ m h. h;
  }

  passes : (ts : List Truth) (ls : Clause) (p : Put) (ps : List Put) → IsOpen ts p.literal → is_resolved (mark_at marks p.literal) ≡ false → Knows ts ls (p ∷ ps) → Knows (assigned ts p.literal) ls ps
  passes ts ls p ps o r k = record {
    known = λ m f d. elim (or_cases (is_false (truth_of ts m)) (int_eq (neg_ℤ p.literal) m) (false_before ts p.literal m o.within f)) [
      | inl g ↦ k.known m g d
      | inr s ↦
          let is : neg_ℤ p.literal ≡ m = same_is (neg_ℤ p.literal) m s in
          let same : mark_at marks m ≡ mark_at marks p.literal = ap (mark_at marks) (sym is) ∙ mark_opposite marks p.literal in
          ap (has ls) (sym is) ∙ k.ahead (neg_ℤ p.literal) (kept_first marks p ps (marked_is (mark_at marks p.literal) (ap is_marked (sym same) ∙ d) r))
    ];
    apart = λ m h d f. k.apart m h d (free_before ts p.literal (place_of m) o.within f).0;
    ahead = λ m h. k.ahead m (kept_rest marks p ps m h);
  }

  learns : (ts : List Truth) (ls : Clause) (p : Put) (ps : List Put) → IsOpen ts p.literal → Knows ts ls (p ∷ ps) → Knows (assigned ts p.literal) (ls ++ neg_ℤ p.literal ∷ []) ps
  learns ts ls p ps o k = record {
    known = λ m f d. has_more ls (neg_ℤ p.literal) m ∙ elim (or_cases (is_false (truth_of ts m)) (int_eq (neg_ℤ p.literal) m) (false_before ts p.literal m o.within f)) [
      | inl g ↦ or_left _ _ (k.known m g d)
      | inr s ↦ or_right (has ls m) _ (ap (λ x. int_eq x (neg_ℤ p.literal)) (sym (same_is (neg_ℤ p.literal) m s)) ∙ same_refl (neg_ℤ p.literal))
    ];
    apart = λ m h d f. elim (or_cases (has ls m) (int_eq m (neg_ℤ p.literal)) (sym (has_more ls (neg_ℤ p.literal) m) ∙ h)) [
      | inl g ↦ k.apart m g d (free_before ts p.literal (place_of m) o.within f).0
      | inr s ↦ (free_before ts p.literal (place_of m) o.within f).1 (ap place_of (same_is m (neg_ℤ p.literal) s) ∙ place_opposite p.literal)
    ];
    ahead = λ m h. has_more ls (neg_ℤ p.literal) m ∙ or_left _ _ (k.ahead m (kept_rest marks p ps m h));
  }

  -- the reason of a resolved literal forces it
  forces : (ts : List Truth) (ls : Clause) (p : Put) (ps : List Put) (c : Clause) → IsOpen ts p.literal → has c p.literal ≡ true → falsified_but ts p.literal c ≡ true → all_marked marks c ≡ true
      → is_resolved (mark_at marks p.literal) ≡ true → Knows ts ls (p ∷ ps) → look numbered ls None c ≡ Forces p.literal
  forces ts ls p ps c o h but all r k =
      let free = open_place ts p.literal o in
      let out : has ls p.literal ≡ false = false_from_ne_true _ (λ g. k.apart p.literal g r free) in
      let opposite_out : has ls (neg_ℤ p.literal) ≡ false = false_from_ne_true _ (λ g. k.apart (neg_ℤ p.literal) g (ap is_resolved (mark_opposite marks p.literal) ∙ r) (subst (IsFree ts) (sym (place_opposite p.literal)) free)) in
      look_unit ls p.literal out opposite_out c (record { at = λ m g n. k.known m (but_each ts p.literal c m but g n) (each_of marks c all m g) }) h

  module _ (conflict : ℕ) (place : conflict < length log) where
    -- a literal of the last clause is false and marked, or among those that are taken as false
    abbrev Ends : List Truth → Clause → Type 0
    Ends ts ls = (m : ℤ) → has (clause_at log conflict) m ≡ true → ((is_false (truth_of ts m) ≡ true) × (is_marked (mark_at marks m) ≡ true)) ⊎ (has ls m ≡ true)

    ends_more : (ts : List Truth) (ls : Clause) (l : ℤ) → Ends ts ls → Ends ts (ls ++ l ∷ [])
    ends_more ts ls l e = λ m h. elim (e m h) [ inl x ↦ inl x | inr y ↦ inr (has_more ls l m ∙ or_left _ _ y) ]

    ends_known : (ts : List Truth) (ls : Clause) (ps : List Put) → Knows ts ls ps → Ends ts ls → (m : ℤ) → has (clause_at log conflict) m ≡ true → has ls m ≡ true
    ends_known ts ls ps k e m h = elim (e m h) [ inl x ↦ k.known m x.0 x.1 | inr y ↦ y ]

    steps : (ts : List Truth) (ls : Clause) (p : Put) (ps : List Put) (reason : Option ℕ) → IsPutBy log ts p.literal reason → IsMet log marks reason → is_resolved (mark_at marks p.literal) ≡ true → Knows ts ls (p ∷ ps)
        → meets numbered log (ls ++ neg_ℤ p.literal ∷ []) (reasons_of marks ps ++ conflict ∷ []) ≡ true → meets numbered log ls ((listed reason ++ reasons_of marks ps) ++ conflict ∷ []) ≡ true
    steps ts ls p ps None h met r k rest = absurd met
    steps ts ls p ps (Some a) h met r k rest =
        meets_first log ls a (reasons_of marks ps ++ conflict ∷ []) (Forces p.literal) h.place
        (forces ts ls p ps (clause_at log a) h.unit.is_free h.unit.member h.unit.others met r k) ∙ rest

    leads : (ts : List Truth) (ls : Clause) (ps : List Put) → IsRun log ts ps → ((i : ℕ) (p : Put) → slice_get ps i ≡ Some p → is_resolved (mark_at marks p.literal) ≡ true → IsMet log marks p.reason)
        → Ends (after ts ps) ls → Knows ts ls ps → meets numbered log ls (reasons_of marks ps ++ conflict ∷ []) ≡ true
    leads ts ls [] run met e k = meets_first log ls conflict [] Falsified place (look_all ls (clause_at log conflict) (ends_known ts ls [] k e))
    leads ts ls (p ∷ ps) run met e k =
        let o = put_open log ts p.literal p.reason run.0 in
        elim (cases_Bool (is_resolved (mark_at marks p.literal))) [
          | inr r ↦ ap (λ x. meets numbered log ls ((x ++ reasons_of marks ps) ++ conflict ∷ [])) (cond-false _ (listed p.reason) [] r)
              ∙ leads (assigned ts p.literal) ls ps run.1 (λ i. met (suc i)) e (passes ts ls p ps o r k)
          | inl r ↦ ap (λ x. meets numbered log ls ((x ++ reasons_of marks ps) ++ conflict ∷ [])) (cond-true _ (listed p.reason) [] r)
              ∙ steps ts ls p ps p.reason run.0 (met 0 p refl r) r k
              (leads (assigned ts p.literal) (ls ++ neg_ℤ p.literal ∷ []) ps run.1 (λ i. met (suc i)) (ends_more (after (assigned ts p.literal) ps) ls (neg_ℤ p.literal) e) (learns ts ls p ps o k))
        ]

    listed_hints : (ts : List Truth) (l : ℤ) (reason : Option ℕ) → IsPutBy log ts l reason → are_hints log (listed reason) ≡ true
    listed_hints ts l None h = refl
    listed_hints ts l (Some a) h = and_from _ true ((Decides-ltb a (length log)).1 h.place) refl

    more_hints : (a b : List ℕ) → are_hints log a ≡ true → are_hints log b ≡ true → are_hints log (a ++ b) ≡ true
    more_hints a b e f = list_all-append (λ h. nat_lt h (length log)) a b ∙ and_from _ _ e f

    all_hints : (ts : List Truth) (ps : List Put) → IsRun log ts ps → are_hints log (reasons_of marks ps) ≡ true
    all_hints ts [] run = refl
    all_hints ts (p ∷ ps) run =
        more_hints (if is_resolved (mark_at marks p.literal) then listed p.reason else []) (reasons_of marks ps)
        (cond_both (is_resolved (mark_at marks p.literal)) (listed p.reason) [] (λ hs. are_hints log hs ≡ true) (λ _. listed_hints ts p.literal p.reason run.0) (λ _. refl))
        (all_hints (assigned ts p.literal) ps run.1)

    led : (vars : ℕ) (trail : List Put) (ls : Clause) → ArePut vars log trail → IsClosed log trail marks → Ends (truths_of vars trail) ls → Knows (replicate vars truth.Open) ls trail
        → follows numbered log ls (reasons_of marks trail ++ conflict ∷ []) ≡ true
    led vars trail ls put closed e k =
        let run = run_of log vars trail put in
        and_from _ _
        (more_hints (reasons_of marks trail) (conflict ∷ []) (all_hints (replicate vars truth.Open) trail run) (and_from _ true ((Decides-ltb conflict (length log)).1 place) refl))
        (leads (replicate vars truth.Open) ls trail run closed.each e k)

    pub lesson_follows : (vars : ℕ) (trail : List Put) → ArePut vars log trail → IsClosed log trail marks → all_marked marks (clause_at log conflict) ≡ true
        → falsified (truths_of vars trail) (clause_at log conflict) ≡ true → follows numbered log (kept_of marks trail) (reasons_of marks trail ++ conflict ∷ []) ≡ true
    lesson_follows vars trail put closed all f =
        let c = clause_at log conflict in
        led vars trail (kept_of marks trail) put closed (λ m h. inl (false_each (truths_of vars trail) c m f h, each_of marks c all m h)) (starts vars trail)
