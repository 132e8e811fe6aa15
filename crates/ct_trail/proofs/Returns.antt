-- Where the search goes on.
use Rattle.std.proofs.Common.{◌≡◌, inl, inr, ℕ, zero, suc, ◌<◌, ◌≤◌, ◌+◌, true, false, List, [], ◌∷◌, ◌++◌, Some, take, drop, length, get_or, refl, ap, ◌∙◌, sym, subst, arith, ℤ, neg_ℤ, replicate, if◌then◌else◌}
use Rattle.std.{specs.Prelude.slice_get, specs.Ordering.int_eq, proofs.lemmas.List.{append-nil, at_drop_more, take_all}, proofs.lemmas.Option.{same_Some, none-some, get_or_from_slice_get}}
use Rattle.std.proofs.lemmas.List.Folds.{list_all-append}
use Rattle.std.proofs.lemmas.Bool.{and_parts, and_from, or_left, or_right, cond-true, cond-false, cond_both, cases_lt}
use Rattle.ct_trail.specs.{declared.assignment.Truth.Truth, declared.marks.Mark.Mark, declared.trail.Put.Put, declared.learning.Return.Return, Literal.{Clause, has, is_literal, is_clause}}
use Rattle.ct_trail.specs.{Assignment.{truth_of, is_false, assigned, falsified, falsified_but, IsUnit}, Learning.IsReturn, Trail.{after, truths_of}, Marks.{mark_at, is_kept, kept_of}, Analysis.{ArePut, NoneKept, IsLastKept, IsDecision, IsBack}}
use Rattle.ct_trail.proofs.{Literals.{same_refl, opposite_literal}, Assignments.open_opposite, Trails.{IsRun, run_of, put_open, open_at, run_take, opposite_false, stays_false_after}}
use Rattle.ct_trail.specs.declared.assignment.Truth.TheVariants as truth

pub none_joined : (marks : List Mark) (trail : List Put) (from mid to : ℕ) → NoneKept marks trail from mid → NoneKept marks trail mid to → NoneKept marks trail from to
none_joined marks trail from mid to a b = λ i p f t e. elim (cases_lt i mid) [ inl lt ↦ a i p f lt e | inr ge ↦ b i p ge t e ]

module _ (marks : List Mark) where
  -- what is kept of one literal
  abbrev one : Put → Clause
  one p = if is_kept (mark_at marks p.literal) then neg_ℤ p.literal ∷ [] else []

  pub kept_take : (trail : List Put) (from to : ℕ) → from ≤ to → NoneKept marks trail from to → kept_of marks (take to trail) ≡ kept_of marks (take from trail)
  kept_take trail zero zero le none = refl
  kept_take [] zero (suc to) le none = refl
  kept_take (p ∷ ps) zero (suc to) le none =
      ap (λ x. kept_of marks (take to ps) ++ x) (cond-false _ (neg_ℤ p.literal ∷ []) [] (none 0 p (omega arith) (omega arith) refl))
      ∙ append-nil (kept_of marks (take to ps)) ∙ kept_take ps zero to (omega arith) (λ i q f t. none (suc i) q (omega arith) (omega arith))
  kept_take trail (suc from) zero le none = absurd (omega arith)
  kept_take [] (suc from) (suc to) le none = refl
  kept_take (p ∷ ps) (suc from) (suc to) le none =
      ap (λ x. x ++ one p) (kept_take ps from to (omega arith) (λ i q f t. none (suc i) q (omega arith) (omega arith)))

  pub kept_at : (trail : List Put) (u : ℕ) (p : Put) → slice_get trail u ≡ Some p → is_kept (mark_at marks p.literal) ≡ true → kept_of marks (take (suc u) trail) ≡ neg_ℤ p.literal ∷ kept_of marks (take u trail)
  kept_at [] u p e k = absurd (none-some p e)
  kept_at (q ∷ ps) zero p e k =
      cond-true _ (neg_ℤ q.literal ∷ []) [] (ap (λ x. is_kept (mark_at marks x.literal)) (same_Some q p e) ∙ k) ∙ ap (λ x. neg_ℤ x.literal ∷ []) (same_Some q p e)
  kept_at (q ∷ ps) (suc u) p e k = ap (λ x. x ++ one q) (kept_at ps u p e k)

  -- one literal more of what is kept from a place on
  pub kept_more : (trail : List Put) (i : ℕ) (d : Put) → i < length trail → is_kept (mark_at marks (get_or trail i d).literal) ≡ true
      → kept_of marks (drop i trail) ≡ kept_of marks (drop (i + 1) trail) ++ neg_ℤ (get_or trail i d).literal ∷ []
  kept_more trail i d lt k =
      at_drop_more (kept_of marks) trail i d lt ∙ ap (λ x. kept_of marks (drop (i + 1) trail) ++ x) (cond-true _ (neg_ℤ (get_or trail i d).literal ∷ []) [] k)

  pub kept_less : (trail : List Put) (i : ℕ) (d : Put) → i < length trail → is_kept (mark_at marks (get_or trail i d).literal) ≡ false
      → kept_of marks (drop i trail) ≡ kept_of marks (drop (i + 1) trail)
  kept_less trail i d lt k =
      at_drop_more (kept_of marks) trail i d lt
      ∙ ap (λ x. kept_of marks (drop (i + 1) trail) ++ x) (cond-false _ (neg_ℤ (get_or trail i d).literal ∷ []) [] k) ∙ append-nil (kept_of marks (drop (i + 1) trail))

  one_within : (n : ℕ) (p : Put) → is_literal n p.literal ≡ true → is_clause n (one p) ≡ true
  unfolding is_clause
  one_within n p w = cond_both (is_kept (mark_at marks p.literal)) (neg_ℤ p.literal ∷ []) [] (λ x. is_clause n x ≡ true) (λ _. and_from _ true (opposite_literal n p.literal w) refl) (λ _. refl)

  pub kept_within : (n : ℕ) (trail : List Put) → ((i : ℕ) (p : Put) → slice_get trail i ≡ Some p → is_literal n p.literal ≡ true) → is_clause n (kept_of marks trail) ≡ true
  unfolding is_clause
  kept_within n [] each = refl
  kept_within n (p ∷ ps) each =
      list_all-append (is_literal n) (kept_of marks ps) (one p) ∙ and_from _ _ (kept_within n ps (λ i. each (suc i))) (one_within n p (each 0 p refl))

  module _ (log : List Clause) where
    one_false : (ts : List Truth) (p : Put) → is_false (truth_of ts (neg_ℤ p.literal)) ≡ true → falsified ts (one p) ≡ true
    unfolding falsified
    one_false ts p f = cond_both (is_kept (mark_at marks p.literal)) (neg_ℤ p.literal ∷ []) [] (λ x. falsified ts x ≡ true) (λ _. and_from _ true f refl) (λ _. refl)

    -- what is kept of a trail is false by its truths
    kept_false : (ts : List Truth) (ps : List Put) → IsRun log ts ps → falsified (after ts ps) (kept_of marks ps) ≡ true
    unfolding falsified
    kept_false ts [] run = refl
    kept_false ts (p ∷ ps) run =
        let o = put_open log ts p.literal p.reason run.0 in
        let now = assigned ts p.literal in
        list_all-append (λ m. is_false (truth_of (after now ps) m)) (kept_of marks ps) (one p)
        ∙ and_from _ _ (kept_false now ps run.1) (one_false (after now ps) p (stays_false_after log now ps (neg_ℤ p.literal) run.1 (opposite_false ts p.literal o.within)))

but_first : (ts : List Truth) (l : ℤ) (c : Clause) → falsified ts c ≡ true → falsified_but ts l (l ∷ c) ≡ true
unfolding falsified falsified_but
but_first ts l c f = and_from _ _ (or_right (is_false (truth_of ts l)) _ (same_refl l)) (but_rest c f)
  where
    but_rest : (d : Clause) → falsified ts d ≡ true → falsified_but ts l d ≡ true
    but_rest [] e = refl
    but_rest (m ∷ d) e = let parts = and_parts (is_false (truth_of ts m)) _ e in and_from _ _ (or_left _ (int_eq l m) parts.0) (but_rest d parts.1)

first_has : (l : ℤ) (c : Clause) → has (l ∷ c) l ≡ true
unfolding has
first_has l c = or_left _ _ (same_refl l)

module _ (vars : ℕ) (log : List Clause) (trail : List Put) (marks : List Mark) (put : ArePut vars log trail) where
  pub nothing_kept : NoneKept marks trail 0 (length trail) → kept_of marks trail ≡ []
  nothing_kept none = ap (kept_of marks) (sym (take_all (length trail) trail (omega arith))) ∙ kept_take marks trail 0 (length trail) (omega arith) none

  pub goes_back : (end : ℕ) (r : Return) → end ≤ length trail → NoneKept marks trail end (length trail) → IsBack marks trail end r → IsReturn vars trail (kept_of marks trail) r
  goes_back end r le none b =
      let u = b.place in
      let front = kept_of marks (take r.cut trail) in
      let whole : kept_of marks trail ≡ kept_of marks (take end trail) =
      ap (kept_of marks) (sym (take_all (length trail) trail (omega arith))) ∙ kept_take marks trail end (length trail) le none in
      let is : kept_of marks trail ≡ neg_ℤ b.last.put.literal ∷ front =
      whole ∙ kept_take marks trail (suc u) end (omega (arith, b.last.place)) (λ i q from to. b.last.none i q (omega arith) to)
      ∙ kept_at marks trail u b.last.put b.last.there b.last.kept ∙ ap (λ x. neg_ℤ b.last.put.literal ∷ x) (kept_take marks trail r.cut u b.cut b.alone) in
      let run = run_of log vars trail put in
      let ts = truths_of vars (take r.cut trail) in
      let unit : IsUnit ts (neg_ℤ b.last.put.literal ∷ front) (neg_ℤ b.last.put.literal) = record {
        is_free = open_opposite ts b.last.put.literal (open_at log (replicate vars truth.Open) trail run r.cut u b.last.put b.last.there b.cut);
        member = first_has (neg_ℤ b.last.put.literal) front;
        others = but_first ts (neg_ℤ b.last.put.literal) front (kept_false marks log (replicate vars truth.Open) (take r.cut trail) (run_take log (replicate vars truth.Open) trail r.cut run));
      } in
      record {
        decision = b.decision.put;
        there = b.decision.there;
        decided = b.decision.decided;
        unit = subst (λ x. IsUnit ts x r.literal) (sym is) (subst (λ l. IsUnit ts (neg_ℤ b.last.put.literal ∷ front) l) (sym b.literal) unit);
      }

pub back_at : (marks : List Mark) (trail : List Put) (end u low cut : ℕ) (d : Put) (l : ℤ) → IsLastKept marks trail end u → low ≤ cut → cut ≤ u → NoneKept marks trail low u → IsDecision trail cut
    → l ≡ neg_ℤ (get_or trail u d).literal → IsBack marks trail end (record { cut = cut; literal = l })
back_at marks trail end u low cut d l last le below none decision e = record {
  place = u;
  last = last;
  cut = below;
  decision = decision;
  alone = λ i p from to. none i p (omega arith) to;
  literal = e ∙ ap (λ x. neg_ℤ x.literal) (get_or_from_slice_get trail u last.put d last.there);
}
