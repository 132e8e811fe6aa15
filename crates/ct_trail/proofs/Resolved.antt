-- A step of the analysis: a literal is resolved with its reason.
use Rattle.std.proofs.Common.{◌≡◌, ℕ, ◌<◌, ◌+◌, true, false, List, Option, Some, None, take, length, set, refl, ap, ◌∙◌, sym, subst, arith, inl, inr, ℤ, replicate}
use Rattle.std.{specs.Prelude.slice_get, proofs.lemmas.List.{get_or-replicate, get_or_past, length-replicate, length-set, get_or-set_same, get_or-set_other}, proofs.lemmas.Option.same_Some}
use Rattle.std.proofs.lemmas.Bool.{cases_order, cases_lt, false≢true}
use Rattle.ct_trail.specs.{declared.marks.Mark.Mark, declared.trail.Put.Put, Literal.{Clause, is_literal, is_clause, place_of, has}}
use Rattle.ct_trail.specs.{Log.clause_at, Look.IsUnitAt, Trail.truths_of, Marks.{mark_at, is_marked, is_kept, is_resolved, with_kept, replaced, all_marked, IsMet, IsClosed, Resolves}, Analysis.{ArePut, NoneKept}}
use Rattle.ct_trail.proofs.{Assignments.{place_within, open_place}, Lessons.{same_tells, but_each}, Marked.{mark_set, with_length, with_marked, with_resolved, with_each, with_apart, all_from, each_of}}
use Rattle.ct_trail.proofs.Trails.{run_of, put_unit, open_at, apart, false_apart, unit_within, within_of}
use Rattle.ct_trail.specs.declared.marks.Mark.TheVariants as mark
use Rattle.ct_trail.specs.declared.assignment.Truth.TheVariants as truth

resolved_not_kept : (k : Mark) → is_resolved k ≡ true → is_kept k ≡ false
resolved_not_kept mark.Clear e = refl
resolved_not_kept mark.Kept e = sym e
resolved_not_kept mark.Resolved e = refl

none_marked : (n : ℕ) (l : ℤ) → mark_at (replicate n mark.Clear) l ≡ mark.Clear
none_marked n l =
    elim (cases_lt (place_of l) n) [
      | inl lt ↦ get_or-replicate n (place_of l) mark.Clear mark.Clear lt
      | inr ge ↦ get_or_past (replicate n mark.Clear) (place_of l) mark.Clear (omega (arith, length-replicate n mark.Clear))
    ]

-- the variables of a clause are met first
module _ (log : List Clause) (trail : List Put) (n : ℕ) (marks : List Mark) (e : marks ≡ replicate n mark.Clear) (c : Clause) (w : is_clause n c ≡ true) where
  same_length : length marks ≡ n
  same_length = ap length e ∙ length-replicate n mark.Clear

  pub begins : IsClosed log trail (with_kept marks c)
  begins = record {
    each = λ i p _ r. absurd (false≢true (sym (with_resolved n marks c same_length w p.literal ∙ ap (λ x. is_resolved (mark_at x p.literal)) e ∙ ap is_resolved (none_marked n p.literal)) ∙ r));
  }

  pub begun : (new : List Mark) → Resolves log trail (with_kept marks c) new → all_marked new c ≡ true
  begun new s = all_from new c (λ m h. s.marked m (with_each n marks c same_length w m h))

pub resolves_more : (log : List Clause) (trail : List Put) (a b c : List Mark) → Resolves log trail a b → Resolves log trail b c → Resolves log trail a c
resolves_more log trail a b c r s = record { long = s.long ∙ r.long; marked = λ l h. s.marked l (r.marked l h); closed = s.closed }

pub put_of : (vars : ℕ) (log : List Clause) (trail : List Put) (marks new : List Mark) → vars ≡ length marks → Resolves log trail marks new → ArePut vars log trail → ArePut (length new) log trail
put_of vars log trail marks new e r a = subst (λ n. ArePut n log trail) (e ∙ sym r.long) a

-- two places of one variable have one literal
same_put : (vars : ℕ) (log : List Clause) (trail : List Put) → ArePut vars log trail → (u i : ℕ) (p q : Put) → slice_get trail u ≡ Some p → slice_get trail i ≡ Some q → place_of q.literal ≡ place_of p.literal → q ≡ p
same_put vars log trail put u i p q e f s =
    let run = run_of log vars trail put in
    elim (cases_order u i) [
      | inl same ↦ same_Some q p (sym f ∙ ap (slice_get trail) (sym same) ∙ e)
      | inr other ↦ elim other [
        | inl lt ↦ absurd (apart log (replicate vars truth.Open) trail run u i p q e f lt s)
        | inr lt ↦ absurd (apart log (replicate vars truth.Open) trail run i u q p f e lt (sym s))
      ]
    ]

module _ (log : List Clause) (trail : List Put) (marks : List Mark) (put : ArePut (length marks) log trail) (u : ℕ) (p : Put) (there : slice_get trail u ≡ Some p) (k : ℕ) (reason : p.reason ≡ Some k) where
  abbrev vars : ℕ
  vars = length marks

  abbrev c : Clause
  c = clause_at log k

  abbrev here : List Mark
  here = set marks (place_of p.literal) mark.Resolved

  abbrev new : List Mark
  new = replaced marks p.literal c

  pub literal_within : is_literal vars p.literal ≡ true
  literal_within = (within_of log vars trail put).each u p there

  pub unit : IsUnitAt (truths_of vars (take u trail)) p.literal log k
  unit = put_unit log (truths_of vars (take u trail)) p.literal p.reason k reason (put.each u p there)

  pub clause_in : is_clause vars c ≡ true
  clause_in = unit_within vars (take u trail) c p.literal unit.unit

  long : length here ≡ vars
  long = length-set marks (place_of p.literal) mark.Resolved

  lt : place_of p.literal < length marks
  lt = place_within vars p.literal literal_within

  stays : (l : ℤ) → is_marked (mark_at marks l) ≡ true → is_marked (mark_at new l) ≡ true
  stays l h =
      with_marked vars here c long clause_in l (elim (mark_set marks p.literal l mark.Resolved lt) [ inl e ↦ ap is_marked e.1 | inr e ↦ ap is_marked e ∙ h ])

  met_stays : (r : Option ℕ) → IsMet log marks r → IsMet log new r
  met_stays None h = h
  met_stays (Some a) h = all_from new (clause_at log a) (λ m g. stays m (each_of marks (clause_at log a) h m g))

  pub resolved : IsClosed log trail marks → Resolves log trail marks new
  resolved closed = record {
    long = with_length here c ∙ long;
    marked = stays;
    closed = record {
      each = λ i q e r.
          let before : is_resolved (mark_at here q.literal) ≡ true = sym (with_resolved vars here c long clause_in q.literal) ∙ r in
          elim (mark_set marks p.literal q.literal mark.Resolved lt) [
            | inl s ↦
                let same : q ≡ p = same_put vars log trail put u i p q there e s.0 in
                subst (IsMet log new) (sym (ap (λ x. x.reason) same ∙ reason)) (all_from new c (with_each vars here c long clause_in))
            | inr s ↦ met_stays q.reason (closed.each i q e (sym (ap is_resolved s) ∙ before))
          ];
    };
  }

  -- a literal past it has none of the clause's variables
  later_apart : (i : ℕ) (q : Put) → slice_get trail i ≡ Some q → u < i → (m : ℤ) → has c m ≡ true → place_of q.literal ≡ place_of m → ⊥
  later_apart i q e after m h s =
      let run = run_of log vars trail put in
      let o = open_at log (replicate vars truth.Open) trail run u i q e (omega arith) in
      let ts = truths_of vars (take u trail) in
      elim (same_tells p.literal m) [
        | inl same ↦ apart log (replicate vars truth.Open) trail run u i p q there e after (s ∙ ap place_of (sym same.1))
        | inr other ↦ false_apart ts m (place_of q.literal) (but_each ts p.literal c m unit.unit.others h other) (open_place ts q.literal o) s
      ]

  pub none_above : (end : ℕ) → NoneKept marks trail (u + 1) end → NoneKept new trail u end
  none_above end none = λ i q from to e.
      elim (cases_order u i) [
        | inl same ↦
            let is : q ≡ p = same_Some q p (sym e ∙ ap (slice_get trail) (sym same) ∙ there) in
            let there_now : mark_at here p.literal ≡ mark.Resolved = get_or-set_same marks (place_of p.literal) mark.Resolved mark.Clear lt in
            ap (λ x. is_kept (mark_at new x.literal)) is
            ∙ resolved_not_kept (mark_at new p.literal) (with_resolved vars here c long clause_in p.literal ∙ ap is_resolved there_now)
        | inr other ↦ elim other [
          | inl after ↦
              let apart_all = later_apart i q e after in
              let run = run_of log vars trail put in
              let ne : place_of q.literal ≡ place_of p.literal → ⊥ = apart log (replicate vars truth.Open) trail run u i p q there e after in
              let same : mark_at new q.literal ≡ mark_at marks q.literal =
              with_apart here c q.literal apart_all ∙ get_or-set_other marks (place_of p.literal) (place_of q.literal) mark.Resolved mark.Clear ne in
              ap is_kept same ∙ none i q (omega arith) to e
          | inr before ↦ absurd (omega arith)
        ]
      ]
