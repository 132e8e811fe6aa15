-- The fields of a board, and what is made of them.
use Rattle.std.proofs.Common.{◌≡◌, ℕ, zero, ◌<◌, ◌≤◌, ◌-◌, true, ◌&&◌, List, [], ◌∷◌, ◌++◌, length, get_or, take, set, suc, max, Option, Some, refl, ap, ◌∙◌, sym, subst, arith, ℤ, inl, inr}
use Rattle.std.{specs.Prelude.slice_get, proofs.lemmas.List.length_push, proofs.lemmas.Option.slice_get_read}
use Rattle.ct_trail.specs.declared.{assignment.Truth.Truth, trail.Put.Put, log.Rup.Rup, log.Entry.Entry, learning.Lesson.Lesson, look.Look.Look}
use Rattle.ct_trail.specs.{Literal.{Clause, is_literal, is_clause, place_of, numbered, LARGEST}, Assignment.{assigned, truth_of, is_open, IsOpen}, Look.{LookOf, IsFalsifiedAt}}
use Rattle.ct_trail.specs.{Log.{entry_clause, clauses_in}, Trail.{truths_of, IsPutBy, IsTrail}, Learning.{IsReturnOf, IsLesson}, Analysis.{ArePut, AreWithin, IsPutAt}, Units.{HasUnit, IsOwnReason, IsUnitLesson}}
use Rattle.ct_trail.specs.Standing.{Standing, IsStanding, truths_now, log_now, can_decide, extended, shortened, worth, worth_of, Learned, Advances, SeenAt, IsTakenBack}
use Rattle.ct_trail.proofs.{Assignments.wider, Narrow.{narrow_falsified, wide_return, narrow_trail}, Literals.alone_within, Logs.last_clause, Growth.{length_truths, truths_push}, Steps.{standing_put, standing_cut, standing_added, standing_learned, scan_within, seen_at, worth_put, last_back}}
use Rattle.ct_trail.specs.declared.assignment.Truth.TheVariants as truth
use Rattle.ct_trail.specs.declared.log.Entry.TheVariants as entry
use Rattle.ct_derivation.specs.Propagation.{follows}

abbrev board : ℕ → ℕ → List Entry → List Put → Standing
board vars top es ps = record { vars = vars; top = top; entries = es; trail = ps }

take_none : (ps : List Put) → ps ≡ [] → (n : ℕ) → ps ≡ take n ps
take_none [] e zero = refl
take_none [] e (suc n) = refl
take_none (p ∷ ps) e n = cc

take_front : (qs : List Put) (p : Put) → take (length (qs ++ p ∷ []) - 1) (qs ++ p ∷ []) ≡ qs
take_front [] p = refl
take_front (q ∷ qs) p =
    let n : length (q ∷ qs ++ p ∷ []) - 1 ≡ suc (length (qs ++ p ∷ []) - 1) = omega (arith, length_push qs p) in
    ap (λ k. take k (q ∷ qs ++ p ∷ [])) n ∙ ap (λ x. q ∷ x) (take_front qs p)

module _ (v : Standing) (vars top : ℕ) (es : List Entry) (ps : List Put) (ts : List Truth) (is : board vars top es ps ≡ v) (h : IsStanding (board vars top es ps) × (ts ≡ truths_of vars ps)) where
  t : ts ≡ truths_of vars ps
  t = h.1

  pub many : length ts ≡ vars
  many = ap length t ∙ length_truths vars ps

  pub few : length ts ≤ LARGEST
  few = omega (arith, many, h.0.vars)

  pub top_few : top ≤ length ts
  top_few = omega (arith, many, h.0.top)

  pub within : (l : ℤ) → is_literal v.top l ≡ true → is_literal (length ts) l ≡ true
  within l e = wider top (length ts) l top_few (ap (λ (x : Standing). is_literal x.top l) is ∙ e)

  pub within_top : (l : ℤ) → is_literal top l ≡ true → is_literal (length ts) l ≡ true
  within_top l e = wider top (length ts) l top_few e

  pub open_here : (l : ℤ) (us : List Truth) → us ≡ ts → truth_of us l ≡ truth.Open → is_literal top l ≡ true → IsOpen (truths_now v) l
  open_here l us us_are o e =
      subst (λ (x : Standing). IsOpen (truths_now x) l) is
      (record {
        without_truth = ap (λ x. truth_of x l) (sym (us_are ∙ t)) ∙ o;
        within = ap (λ x. is_literal (length x) l) (sym t) ∙ within_top l e;
      })

  pub truth_here : (l : ℤ) (us : List Truth) → us ≡ ts → truth_of us l ≡ truth_of (truths_now v) l
  truth_here l us us_are = ap (λ x. truth_of x l) (us_are ∙ t) ∙ ap (λ (x : Standing). truth_of (truths_now x) l) is

  pub can_here : (l : ℤ) (us : List Truth) → us ≡ ts → (is_literal top l && is_open (truth_of us l)) ≡ can_decide v l
  can_here l us us_are = (λ i. is_literal top l && is_open (truth_of ((us_are ∙ t) i) l)) ∙ ap (λ (x : Standing). can_decide x l) is

  pub look_here : (k : ℕ) (e : Entry) → k < length es → e ≡ get_or es k e → is_clause (length ts) (entry_clause e) ≡ true
  look_here k e lt at = scan_within (length ts) top es k e lt at top_few h.0.within

  pub seen_here : (k : ℕ) (e : Entry) (us : List Truth) (look : Look) → k < length es → e ≡ get_or es k e → us ≡ ts → LookOf us (entry_clause e) look → SeenAt v k look
  seen_here k e us look lt at us_are l =
      subst (λ (x : Standing). SeenAt x k look) is
      (seen_at (board vars top es ps) k e look h.0 (slice_get_read es (length es) k e refl lt at) (subst (λ x. LookOf x (entry_clause e) look) (us_are ∙ t) l))

  pub added_on : (c : Clause) (a : ℕ) (more : List Entry) (wide : ℕ) → is_clause v.vars c ≡ true → is_clause a c ≡ true → ((k : ℕ) → is_clause k c ≡ true → a ≤ k) → wide ≡ max top a → more ≡ es ++ entry.Added c ∷ []
      → IsStanding (board vars wide more ps) × (ts ≡ truths_of vars ps)
  added_on c a more wide e f least wide_is more_is = (
    subst (λ n. IsStanding (board vars n more ps)) (sym wide_is)
        (subst (λ (x : List Entry). IsStanding (board vars (max top a) x ps)) (sym more_is)
        (standing_added (board vars top es ps) c a h.0 (ap (λ (x : Standing). is_clause x.vars c) is ∙ e) f least)),
    t,
  )

  put_here : (l : ℤ) (r : Option ℕ) → IsPutBy (log_now v) (truths_now v) l r → IsPutBy (clauses_in es) (truths_of vars ps) l r
  put_here l r by = subst (λ (x : Standing). IsPutBy (log_now x) (truths_now x) l r) (sym is) by

  pub put_on : (l : ℤ) (r : Option ℕ) (qs : List Put) (us : List Truth) → IsPutBy (log_now v) (truths_now v) l r → is_literal v.top l ≡ true → qs ≡ ps ++ record { literal = l; reason = r } ∷ [] → us ≡ assigned ts l
      → IsStanding (board vars top es qs) × (us ≡ truths_of vars qs)
  put_on l r qs us by e more made = (
    subst (λ (z : List Put). IsStanding (board vars top es z)) (sym more)
        (standing_put (board vars top es ps) l r h.0 (put_here l r by) (ap (λ (x : Standing). is_literal x.top l) is ∙ e)),
    made ∙ ap (λ x. assigned x l) t ∙ sym (truths_push vars ps (record { literal = l; reason = r })) ∙ ap (truths_of vars) (sym more),
  )

  pub put_is : (l : ℤ) (r : Option ℕ) (qs : List Put) → qs ≡ ps ++ record { literal = l; reason = r } ∷ [] → board vars top es qs ≡ extended v l r
  put_is l r qs more = ap (board vars top es) more ∙ ap (λ (x : Standing). extended x l r) is

  pub put_worth : (l : ℤ) (r : Option ℕ) (qs : List Put) → IsPutBy (log_now v) (truths_now v) l r → qs ≡ ps ++ record { literal = l; reason = r } ∷ [] → worth_of v < worth_of (board vars top es qs)
  put_worth l r qs by more =
      subst (λ (z : List Put). worth_of v < worth_of (board vars top es z)) (sym more)
      (subst (λ (x : Standing). worth_of x < worth_of (extended (board vars top es ps) l r)) is (worth_put (board vars top es ps) l r h.0 (put_here l r by)))

  pub last_here : (p : Put) → slice_get ps (length ps - 1) ≡ Some p → is_literal (length ts) p.literal ≡ true
  last_here p at = wider top (length ts) p.literal top_few (h.0.trail.narrow (length ps - 1) p at)

  pub taken : (qs : List Put) (us : List Truth) → IsTakenBack ps ts qs us → IsStanding (board vars top es qs) × (us ≡ truths_of vars qs) × (board vars top es qs ≡ shortened v (length v.trail - 1))
  taken qs us (inl none) =
      let same = none.1 in (
        subst (λ (z : List Put). IsStanding (board vars top es z)) (sym same) h.0,
        none.2 ∙ t ∙ ap (truths_of vars) (sym same),
        subst (λ (x : Standing). board vars top es qs ≡ shortened x (length x.trail - 1)) is (ap (board vars top es) (same ∙ take_none ps none.0 (length ps - 1))),
      )
  taken qs us (inr some) =
      let p = some.0 in
      let front : take (length ps - 1) ps ≡ qs = subst (λ (z : List Put). take (length z - 1) z ≡ qs) (sym some.1) (take_front qs p) in (
        subst (λ (z : List Put). IsStanding (board vars top es z)) front (standing_cut (board vars top es ps) (length ps - 1) h.0),
        some.2 ∙ ap (λ x. set x (place_of p.literal) truth.Open) t ∙ last_back (board vars top es ps) qs p h.0 some.1,
        subst (λ (x : Standing). board vars top es qs ≡ shortened x (length x.trail - 1)) is (ap (board vars top es) (sym front)),
      )

  pub false_here : (k : ℕ) → IsFalsifiedAt (truths_now v) (log_now v) k → IsFalsifiedAt ts (clauses_in es) k
  false_here k f = subst (λ x. IsFalsifiedAt x (clauses_in es) k) (sym t) (subst (λ (x : Standing). IsFalsifiedAt (truths_now x) (log_now x) k) (sym is) f)

  pub top_in : top ≤ LARGEST
  top_in = omega (arith, h.0.top, h.0.vars)

  module _ (log : List Entry) (qs : List Put) (log_is : log ≡ es) (qs_are : qs ≡ ps) where
    trail_here : IsTrail vars top (clauses_in log) qs
    trail_here = subst (λ (x : List Entry). IsTrail vars top (clauses_in x) qs) (sym log_is) (subst (λ (x : List Put). IsTrail vars top (clauses_in es) x) (sym qs_are) h.0.trail)

    narrow : AreWithin top qs
    narrow = record { each = trail_here.narrow }

    pub trail_of : ArePut top (clauses_in log) qs
    trail_of = narrow_trail top vars h.0.top (clauses_in log) qs trail_here

    pub false_of : (k : ℕ) → IsFalsifiedAt (truths_now v) (log_now v) k → IsFalsifiedAt (truths_of top qs) (clauses_in log) k
    false_of k f =
        let here = subst (λ (x : List Entry). IsFalsifiedAt ts (clauses_in x) k) (sym log_is) (false_here k f) in
        narrow_falsified top vars h.0.top (clauses_in log) qs narrow k (subst (λ x. IsFalsifiedAt x (clauses_in log) k) (t ∙ ap (truths_of vars) (sym qs_are)) here)

    module _ (lesson : Lesson) (l : IsLesson top (clauses_in log) qs lesson) (r : Rup) (c_is : r.clause ≡ lesson.clause.items) (h_is : r.hints ≡ lesson.hints.items) (more : List Entry) (more_is : more ≡ es ++ entry.Learned r ∷ []) where
      pub learned_on : IsStanding (board vars top more ps)
      learned_on = subst (λ (x : List Entry). IsStanding (board vars top x ps)) (sym more_is)
          (standing_learned (board vars top es ps) r h.0 (ap (is_clause top) c_is ∙ l.within)
          (ap (λ c. follows numbered (clauses_in es) c r.hints) c_is ∙ ap (follows numbered (clauses_in es) lesson.clause.items) h_is
          ∙ ap (λ (x : List Entry). follows numbered (clauses_in x) lesson.clause.items lesson.hints.items) (sym log_is) ∙ l.follows))

      pub learned_is : Learned v (board vars top more ps) lesson.back
      learned_is =
          let wide : IsReturnOf vars qs lesson.clause.items lesson.back = wide_return top vars h.0.top (clauses_in log) qs narrow lesson.clause.items lesson.back l.returns in
          let back : IsReturnOf vars ps r.clause lesson.back =
          subst (λ c. IsReturnOf vars ps c lesson.back) (sym c_is) (subst (λ (x : List Put). IsReturnOf vars x lesson.clause.items lesson.back) qs_are wide) in
          subst (λ (x : Standing). Learned x (board vars top more ps) lesson.back) is
          (record { step = r; is = ap (λ (x : List Entry). board vars top x ps) more_is; returns = back })

  -- a literal of the trail gets a clause of its own
  module _ (place position : ℕ) (hs : List ℕ) (u : IsUnitLesson (log_now v) v.trail place hs) (r : Rup) (c_is : r.clause ≡ u.put.literal ∷ []) (h_is : r.hints ≡ hs) (at : position ≡ length es)
      (more : List Entry) (more_is : more ≡ es ++ entry.Learned r ∷ []) (qs : List Put) (qs_kept : (log : List Clause) → IsOwnReason log ps place position → IsTrail vars top log ps → IsTrail vars top log qs) where
    at_here : slice_get ps place ≡ Some u.put
    at_here = ap (λ (x : Standing). slice_get x.trail place) is ∙ u.there

    log_on : IsStanding (board vars top more ps)
    log_on = subst (λ (x : List Entry). IsStanding (board vars top x ps)) (sym more_is)
        (standing_learned (board vars top es ps) r h.0 (ap (is_clause top) c_is ∙ alone_within top u.put.literal (h.0.trail.narrow place u.put at_here))
        (ap (λ c. follows numbered (clauses_in es) c r.hints) c_is ∙ ap (follows numbered (clauses_in es) (u.put.literal ∷ [])) h_is
        ∙ ap (λ (x : Standing). follows numbered (log_now x) (u.put.literal ∷ []) hs) is ∙ u.follows))

    own : IsOwnReason (clauses_in more) ps place position
    own =
        let last = last_clause es (entry.Learned r) position at in
        subst (λ (x : List Entry). IsOwnReason (clauses_in x) ps place position) (sym more_is)
        (record { put = u.put; there = at_here; alone = record { within = last.0; alone = last.1 ∙ c_is } })

    pub unit_on : truths_of vars qs ≡ truths_of vars ps → IsStanding (board vars top more qs) × (ts ≡ truths_of vars qs)
    unit_on same = (
      record {
        vars = h.0.vars;
        top = h.0.top;
        within = log_on.within;
        least = log_on.least;
        follow = log_on.follow;
        trail = qs_kept (clauses_in more) own log_on.trail;
      },
      t ∙ sym same,
    )

    pub unit_is : ((p : Put) → slice_get ps place ≡ Some p → qs ≡ set ps place (record { literal = p.literal; reason = Some position })) → HasUnit v place hs (board vars top more qs)
    unit_is set_is =
        let entries : more ≡ es ++ entry.Learned (record { clause = u.put.literal ∷ []; hints = hs }) ∷ [] = more_is ∙ (λ i. es ++ entry.Learned (record { clause = c_is i; hints = h_is i }) ∷ []) in
        let trail : qs ≡ set ps place (record { literal = u.put.literal; reason = Some (length es) }) = set_is u.put at_here ∙ ap (λ n. set ps place (record { literal = u.put.literal; reason = Some n })) at in
        subst (λ (x : Standing). HasUnit x place hs (board vars top more qs)) is (record { put = u.put; there = at_here; is = λ i. board vars top (entries i) (trail i) })

    pub unit_advances : ((k : ℕ) → IsPutAt ps place k → worth vars qs ≡ worth vars ps) → Advances v (board vars top more qs)
    unit_advances same =
        let e = same u.reason (record { put = u.put; there = at_here; reasoned = u.reasoned }) in
        subst (λ (x : Standing). Advances x (board vars top more qs)) is
        (record {
          continues = record { vars = refl; more = entry.Learned r ∷ []; is = more_is; none = refl };
          worth = omega (arith, e);
        })
