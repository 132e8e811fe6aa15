-- A trail gives the same truths over fewer variables, if its literals have them.
use Rattle.std.proofs.Common.{◌≡◌, ℕ, zero, suc, ◌≤◌, true, ◌||◌, List, [], ◌∷◌, Option, Some, None, take, length, get_or, refl, ap, ◌∙◌, sym, subst, arith, pos, negsuc, ℤ, inl, inr, replicate}
use Rattle.std.{specs.Prelude.slice_get, specs.Ordering.int_eq, proofs.lemmas.List.{get_or-set_same, get_or-set_other, length-replicate, take_all}, proofs.lemmas.Bool.{and_parts, and_from, cases_eq}}
use Rattle.ct_trail.specs.{declared.assignment.Truth.Truth, declared.trail.Put.Put, declared.learning.Return.Return, Literal.{Clause, is_literal, place_of}}
use Rattle.ct_trail.specs.{Assignment.{truth_of, inverted, is_false, assigned, falsified, falsified_but, IsUnit}, Look.IsFalsifiedAt, Trail.{after, truths_of, IsPutBy, IsTrail}, Learning.IsReturnOf, Analysis.{ArePut, AreWithin}}
use Rattle.ct_trail.proofs.{Assignments.{wider, place_within, length_assigned}, Trails.{length_truths, free_at_first}}
use Rattle.ct_trail.specs.declared.assignment.Truth.TheVariants as truth

-- each variable has the same truth
abbrev AreSame : List Truth → List Truth → Type 0
AreSame ts us = (n : ℕ) → get_or ts n truth.Open ≡ get_or us n truth.Open

same_assigned : (ts us : List Truth) (l : ℤ) → AreSame ts us → is_literal (length ts) l ≡ true → is_literal (length us) l ≡ true → AreSame (assigned ts l) (assigned us l)
unfolding assigned
same_assigned ts us l s w v = λ n.
    elim (cases_eq n (place_of l)) [
      | inl e ↦
          ap (λ k. get_or (assigned ts l) k truth.Open) e ∙ get_or-set_same ts (place_of l) _ truth.Open (place_within (length ts) l w)
          ∙ sym (ap (λ k. get_or (assigned us l) k truth.Open) e ∙ get_or-set_same us (place_of l) _ truth.Open (place_within (length us) l v))
      | inr ne ↦ get_or-set_other ts (place_of l) n _ truth.Open ne ∙ s n ∙ sym (get_or-set_other us (place_of l) n _ truth.Open ne)
    ]

same_after : (top vars : ℕ) → top ≤ vars → (ts us : List Truth) → length ts ≡ vars → length us ≡ top → AreSame ts us → (ps : List Put) → ((i : ℕ) (p : Put) → slice_get ps i ≡ Some p → is_literal top p.literal ≡ true)
    → (n : ℕ) → AreSame (after ts (take n ps)) (after us (take n ps))
same_after top vars le ts us many few s [] w zero = s
same_after top vars le ts us many few s [] w (suc n) = s
same_after top vars le ts us many few s (p ∷ ps) w zero = s
same_after top vars le ts us many few s (p ∷ ps) w (suc n) =
    let l = p.literal in
    let here = w 0 p refl in
    let next = same_assigned ts us l s (ap (λ k. is_literal k l) many ∙ wider top vars l le here) (ap (λ k. is_literal k l) few ∙ here) in
    same_after top vars le (assigned ts l) (assigned us l) (length_assigned ts l ∙ many) (length_assigned us l ∙ few) next ps (λ i. w (suc i)) n

same_truth : (ts us : List Truth) → AreSame ts us → (l : ℤ) → truth_of ts l ≡ truth_of us l
same_truth ts us s (pos zero) = refl
same_truth ts us s (pos (suc n)) = s n
same_truth ts us s (negsuc n) = ap inverted (s n)

module _ (ts us : List Truth) (same : (l : ℤ) → truth_of ts l ≡ truth_of us l) where
  falsified_same : (c : Clause) → falsified ts c ≡ true → falsified us c ≡ true
  unfolding falsified
  falsified_same [] e = refl
  falsified_same (m ∷ c) e =
      let parts = and_parts (is_false (truth_of ts m)) _ e in
      and_from _ _ (ap is_false (sym (same m)) ∙ parts.0) (falsified_same c parts.1)

  but_same : (l : ℤ) (c : Clause) → falsified_but ts l c ≡ true → falsified_but us l c ≡ true
  unfolding falsified_but
  but_same l [] e = refl
  but_same l (m ∷ c) e =
      let parts = and_parts (is_false (truth_of ts m) || int_eq l m) _ e in
      and_from _ _ (ap (λ t. is_false t || int_eq l m) (sym (same m)) ∙ parts.0) (but_same l c parts.1)

  unit_same : (c : Clause) (l : ℤ) → is_literal (length us) l ≡ true → IsUnit ts c l → IsUnit us c l
  unit_same c l w u = record {
    is_free = record { without_truth = sym (same l) ∙ u.is_free.without_truth; within = w };
    member = u.member;
    others = but_same l c u.others;
  }

module _ (top vars : ℕ) (le : top ≤ vars) (log : List Clause) (trail : List Put) where
  module _ (w : AreWithin top trail) where
    same_at : (n : ℕ) (l : ℤ) → truth_of (truths_of vars (take n trail)) l ≡ truth_of (truths_of top (take n trail)) l
    same_at n =
        same_truth (truths_of vars (take n trail)) (truths_of top (take n trail))
        (same_after top vars le (replicate vars truth.Open) (replicate top truth.Open) (length-replicate vars truth.Open) (length-replicate top truth.Open)
        (λ i. free_at_first vars i ∙ sym (free_at_first top i)) trail w.each n)

    narrow_put : (n : ℕ) (p : Put) → is_literal top p.literal ≡ true → IsPutBy log (truths_of vars (take n trail)) p.literal p.reason → IsPutBy log (truths_of top (take n trail)) p.literal p.reason
    narrow_put n p v by = put_at p.reason by
      where
        ts : List Truth
        ts = truths_of vars (take n trail)

        us : List Truth
        us = truths_of top (take n trail)

        here : is_literal (length us) p.literal ≡ true
        here = ap (λ k. is_literal k p.literal) (length_truths top (take n trail)) ∙ v

        put_at : (r : Option ℕ) → IsPutBy log ts p.literal r → IsPutBy log us p.literal r
        put_at None o = record { without_truth = sym (same_at n p.literal) ∙ o.without_truth; within = here }
        put_at (Some k) u = record { place = u.place; unit = unit_same ts us (same_at n) _ p.literal here u.unit }

    pub narrow_falsified : (k : ℕ) → IsFalsifiedAt (truths_of vars trail) log k → IsFalsifiedAt (truths_of top trail) log k
    narrow_falsified k f = record {
      place = f.place;
      none = falsified_same (truths_of vars trail) (truths_of top trail) (subst (λ ps. (l : ℤ) → truth_of (truths_of vars ps) l ≡ truth_of (truths_of top ps) l) (take_all (length trail) trail (omega arith)) (same_at (length trail))) _ f.none;
    }

    pub wide_return : (c : Clause) (back : Option Return) → IsReturnOf top trail c back → IsReturnOf vars trail c back
    wide_return c None e = e
    wide_return c (Some r) b =
        let ts = truths_of vars (take r.cut trail) in
        let us = truths_of top (take r.cut trail) in
        let here : is_literal top r.literal ≡ true = ap (λ k. is_literal k r.literal) (sym (length_truths top (take r.cut trail))) ∙ b.unit.is_free.within in
        record {
          decision = b.decision;
          there = b.there;
          decided = b.decided;
          unit = unit_same us ts (λ l. sym (same_at r.cut l)) c r.literal (ap (λ k. is_literal k r.literal) (length_truths vars (take r.cut trail)) ∙ wider top vars r.literal le here) b.unit;
        }

  pub narrow_trail : IsTrail vars top log trail → ArePut top log trail
  narrow_trail t = record { each = λ i p e. narrow_put (record { each = t.narrow }) i p (t.narrow i p e) (t.each i p e) }
