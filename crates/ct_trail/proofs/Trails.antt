-- The truths along a trail.
use Rattle.std.proofs.Common.{◌≡◌, ℕ, zero, suc, ◌<◌, ◌≤◌, true, ◌||◌, List, [], ◌∷◌, Option, Some, None, take, length, get_or, refl, ap, ◌∙◌, sym, subst, arith, pos, negsuc, neg_ℤ, ℤ, inl, inr, replicate}
use Rattle.std.{specs.Prelude.slice_get, specs.Ordering.int_eq, proofs.lemmas.List.{get_or-set_same, get_or-set_other, length-replicate}}
use Rattle.std.{proofs.lemmas.Bool.{and_parts, and_from, or_cases, false≢true, cases_lt}, proofs.lemmas.Bool.Decides.Decides-ltb, proofs.lemmas.Option.{same_Some, none-some, slice_get-get_or}}
use Rattle.std.proofs.lemmas.List.{get_or_past, get_or-replicate}
use Rattle.ct_trail.specs.{declared.assignment.Truth.Truth, declared.trail.Put.Put, Literal.{Clause, is_literal, is_clause, place_of}}
use Rattle.ct_trail.specs.{Assignment.{truth_of, inverted, is_false, assigned, falsified, falsified_but, IsOpen, IsUnit}, Look.IsUnitAt}
use Rattle.ct_trail.specs.{Trail.{after, truths_of, IsPutBy}, Analysis.{ArePut, AreWithin}}
use Rattle.ct_trail.proofs.{Literals.same_is, Assignments.{place_within, length_assigned, open_place}}
use Rattle.ct_trail.specs.declared.assignment.Truth.TheVariants as truth

-- what stands past the end of a trail
abbrev pub nothing : Put
nothing = record { literal = pos 0; reason = None }

pub put_there : (trail : List Put) (i : ℕ) → i < length trail → slice_get trail i ≡ Some (get_or trail i nothing)
put_there trail i lt = slice_get-get_or trail i nothing lt

-- a variable without a truth
abbrev pub IsFree : List Truth → ℕ → Type 0
IsFree ts n = get_or ts n truth.Open ≡ truth.Open

not_free : (ts : List Truth) (l : ℤ) → is_literal (length ts) l ≡ true → IsFree (assigned ts l) (place_of l) → ⊥
unfolding assigned
not_free ts (pos zero) w e = absurd (false≢true w)
not_free ts (pos (suc k)) w e = let here = get_or-set_same ts k truth.True truth.Open (place_within (length ts) (pos (suc k)) w) in cc
not_free ts (negsuc k) w e = let here = get_or-set_same ts k truth.False truth.Open (place_within (length ts) (negsuc k) w) in cc

other_place : (ts : List Truth) (l : ℤ) (n : ℕ) → (n ≡ place_of l → ⊥) → get_or (assigned ts l) n truth.Open ≡ get_or ts n truth.Open
unfolding assigned
other_place ts l n ne = get_or-set_other ts (place_of l) n _ truth.Open ne

-- a variable without a truth had none before, and is not the one that got it
pub free_before : (ts : List Truth) (l : ℤ) (n : ℕ) → is_literal (length ts) l ≡ true → IsFree (assigned ts l) n → IsFree ts n × (n ≡ place_of l → ⊥)
free_before ts l n w f =
    let ne : n ≡ place_of l → ⊥ = λ e. not_free ts l w (subst (λ x. IsFree (assigned ts l) x) e f) in
    (sym (other_place ts l n ne) ∙ f, ne)

false_place : (ts : List Truth) (m : ℤ) → is_false (truth_of ts m) ≡ true → IsFree ts (place_of m) → ⊥
false_place ts (pos zero) e f = absurd (false≢true e)
false_place ts (pos (suc n)) e f = false≢true (sym (ap is_false f) ∙ e)
false_place ts (negsuc n) e f = false≢true (sym (ap (λ t. is_false (inverted t)) f) ∙ e)

pub false_apart : (ts : List Truth) (m : ℤ) (n : ℕ) → is_false (truth_of ts m) ≡ true → IsFree ts n → n ≡ place_of m → ⊥
false_apart ts m n e f s = false_place ts m e (subst (IsFree ts) s f)

same_truth : (ts : List Truth) (l m : ℤ) → (place_of m ≡ place_of l → ⊥) → truth_of (assigned ts l) m ≡ truth_of ts m
same_truth ts l (pos zero) ne = refl
same_truth ts l (pos (suc n)) ne = other_place ts l n ne
same_truth ts l (negsuc n) ne = ap inverted (other_place ts l n ne)

stays_false : (ts : List Truth) (l m : ℤ) → IsOpen ts l → is_false (truth_of ts m) ≡ true → is_false (truth_of (assigned ts l) m) ≡ true
stays_false ts l m o e =
    ap is_false (same_truth ts l m (λ s. false_apart ts m (place_of l) e (open_place ts l o) (sym s))) ∙ e

pub opposite_false : (ts : List Truth) (l : ℤ) → is_literal (length ts) l ≡ true → is_false (truth_of (assigned ts l) (neg_ℤ l)) ≡ true
unfolding assigned
opposite_false ts (pos zero) w = absurd (false≢true w)
opposite_false ts (pos (suc k)) w = ap (λ t. is_false (inverted t)) (get_or-set_same ts k truth.True truth.Open (place_within (length ts) (pos (suc k)) w))
opposite_false ts (negsuc k) w = ap is_false (get_or-set_same ts k truth.False truth.Open (place_within (length ts) (negsuc k) w))

-- a literal that is false has a variable of the assignment
false_within : (ts : List Truth) (m : ℤ) → is_false (truth_of ts m) ≡ true → is_literal (length ts) m ≡ true
false_within ts (pos zero) e = absurd (false≢true e)
false_within ts (pos (suc n)) e =
    elim (cases_lt n (length ts)) [ inl lt ↦ (Decides-ltb n (length ts)).1 lt | inr ge ↦ absurd (false_place ts (pos (suc n)) e (get_or_past ts n truth.Open ge)) ]
false_within ts (negsuc n) e =
    elim (cases_lt n (length ts)) [ inl lt ↦ (Decides-ltb n (length ts)).1 lt | inr ge ↦ absurd (false_place ts (negsuc n) e (get_or_past ts n truth.Open ge)) ]

falsified_within : (ts : List Truth) (c : Clause) → falsified ts c ≡ true → is_clause (length ts) c ≡ true
unfolding falsified is_clause
falsified_within ts [] e = refl
falsified_within ts (m ∷ c) e =
    let parts = and_parts (is_false (truth_of ts m)) _ e in
    and_from _ _ (false_within ts m parts.0) (falsified_within ts c parts.1)

but_within : (ts : List Truth) (l : ℤ) (c : Clause) → is_literal (length ts) l ≡ true → falsified_but ts l c ≡ true → is_clause (length ts) c ≡ true
unfolding falsified_but is_clause
but_within ts l [] w e = refl
but_within ts l (m ∷ c) w e =
    let parts = and_parts (is_false (truth_of ts m) || int_eq l m) _ e in
    let first : is_literal (length ts) m ≡ true =
    elim (or_cases (is_false (truth_of ts m)) (int_eq l m) parts.0) [ inl f ↦ false_within ts m f | inr s ↦ ap (is_literal (length ts)) (sym (same_is l m s)) ∙ w ] in
    and_from _ _ first (but_within ts l c w parts.1)

pub length_after : (ts : List Truth) (ps : List Put) → length (after ts ps) ≡ length ts
length_after ts [] = refl
length_after ts (p ∷ ps) = length_after (assigned ts p.literal) ps ∙ length_assigned ts p.literal

pub length_truths : (vars : ℕ) (ps : List Put) → length (truths_of vars ps) ≡ vars
length_truths vars ps = length_after (replicate vars truth.Open) ps ∙ length-replicate vars truth.Open

pub conflict_within : (vars : ℕ) (trail : List Put) (c : Clause) → falsified (truths_of vars trail) c ≡ true → is_clause vars c ≡ true
conflict_within vars trail c e = ap (λ n. is_clause n c) (sym (length_truths vars trail)) ∙ falsified_within (truths_of vars trail) c e

pub unit_within : (vars : ℕ) (trail : List Put) (c : Clause) (l : ℤ) → IsUnit (truths_of vars trail) c l → is_clause vars c ≡ true
unit_within vars trail c l u = ap (λ n. is_clause n c) (sym (length_truths vars trail)) ∙ but_within (truths_of vars trail) l c u.is_free.within u.others

pub free_at_first : (n i : ℕ) → IsFree (replicate n truth.Open) i
free_at_first n i =
    elim (cases_lt i n) [
      | inl lt ↦ get_or-replicate n i truth.Open truth.Open lt
      | inr ge ↦ get_or_past (replicate n truth.Open) i truth.Open (omega (arith, length-replicate n truth.Open))
    ]

pub none_false : (n : ℕ) (m : ℤ) → is_false (truth_of (replicate n truth.Open) m) ≡ true → ⊥
none_false n m e = false_place (replicate n truth.Open) m e (free_at_first n (place_of m))

module _ (log : List Clause) where
  -- each literal is put when it is its turn
  abbrev pub IsRun : List Truth → List Put → Type 0
  IsRun ts [] = Unit {0}
  IsRun ts (p ∷ ps) = IsPutBy log ts p.literal p.reason × IsRun (assigned ts p.literal) ps

  run_from : (ts : List Truth) (ps : List Put) → ((i : ℕ) (p : Put) → slice_get ps i ≡ Some p → IsPutBy log (after ts (take i ps)) p.literal p.reason) → IsRun ts ps
  run_from ts [] each = tt
  run_from ts (p ∷ ps) each = (each 0 p refl, run_from (assigned ts p.literal) ps (λ i q e. each (suc i) q e))

  pub run_of : (vars : ℕ) (trail : List Put) → ArePut vars log trail → IsRun (replicate vars truth.Open) trail
  run_of vars trail a = run_from (replicate vars truth.Open) trail a.each

  pub put_open : (ts : List Truth) (l : ℤ) (r : Option ℕ) → IsPutBy log ts l r → IsOpen ts l
  put_open ts l None h = h
  put_open ts l (Some k) h = h.unit.is_free

  pub put_unit : (ts : List Truth) (l : ℤ) (r : Option ℕ) (k : ℕ) → r ≡ Some k → IsPutBy log ts l r → IsUnitAt ts l log k
  put_unit ts l r k e h = subst (IsPutBy log ts l) e h

  open_before : (ts : List Truth) (l m : ℤ) → IsOpen ts l → IsOpen (assigned ts l) m → IsOpen ts m
  open_before ts l m o h =
      let w : is_literal (length ts) m ≡ true = ap (λ n. is_literal n m) (sym (length_assigned ts l)) ∙ h.within in
      let f = free_before ts l (place_of m) o.within (open_place (assigned ts l) m h) in
      record { without_truth = sym (same_truth ts l m f.1) ∙ h.without_truth; within = w }

  -- a literal of the trail is open before it is put
  pub open_at : (ts : List Truth) (ps : List Put) → IsRun ts ps → (cut u : ℕ) (p : Put) → slice_get ps u ≡ Some p → cut ≤ u → IsOpen (after ts (take cut ps)) p.literal
  open_at ts [] run cut u p e le = absurd (none-some p e)
  open_at ts (q ∷ ps) run zero zero p e le = subst (λ x. IsOpen ts x.literal) (same_Some q p e) (put_open ts q.literal q.reason run.0)
  open_at ts (q ∷ ps) run zero (suc u) p e le =
      open_before ts q.literal p.literal (put_open ts q.literal q.reason run.0) (open_at (assigned ts q.literal) ps run.1 zero u p e (omega arith))
  open_at ts (q ∷ ps) run (suc cut) zero p e le = absurd (omega arith)
  open_at ts (q ∷ ps) run (suc cut) (suc u) p e le = open_at (assigned ts q.literal) ps run.1 cut u p e (omega arith)

  -- two places have two variables
  pub apart : (ts : List Truth) (ps : List Put) → IsRun ts ps → (u i : ℕ) (p q : Put) → slice_get ps u ≡ Some p → slice_get ps i ≡ Some q → u < i → place_of q.literal ≡ place_of p.literal → ⊥
  apart ts [] run u i p q e f lt = absurd (none-some p e)
  apart ts (x ∷ ps) run zero zero p q e f lt = absurd (omega arith)
  apart ts (x ∷ ps) run zero (suc i) p q e f lt =
      let o = put_open ts x.literal x.reason run.0 in
      let later = open_at (assigned ts x.literal) ps run.1 zero i q f (omega arith) in
      subst (λ y. place_of q.literal ≡ place_of y.literal → ⊥) (same_Some x p e) (free_before ts x.literal (place_of q.literal) o.within (open_place (assigned ts x.literal) q.literal later)).1
  apart ts (x ∷ ps) run (suc u) zero p q e f lt = absurd (omega arith)
  apart ts (x ∷ ps) run (suc u) (suc i) p q e f lt = apart (assigned ts x.literal) ps run.1 u i p q e f (omega arith)

  pub run_take : (ts : List Truth) (ps : List Put) (n : ℕ) → IsRun ts ps → IsRun ts (take n ps)
  run_take ts [] zero run = tt
  run_take ts [] (suc n) run = tt
  run_take ts (p ∷ ps) zero run = tt
  run_take ts (p ∷ ps) (suc n) run = (run.0, run_take (assigned ts p.literal) ps n run.1)

  pub stays_false_after : (ts : List Truth) (ps : List Put) (m : ℤ) → IsRun ts ps → is_false (truth_of ts m) ≡ true → is_false (truth_of (after ts ps) m) ≡ true
  stays_false_after ts [] m run e = e
  stays_false_after ts (p ∷ ps) m run e =
      stays_false_after (assigned ts p.literal) ps m run.1 (stays_false ts p.literal m (put_open ts p.literal p.reason run.0) e)

  -- the variable of each literal
  pub within_of : (vars : ℕ) (trail : List Put) → ArePut vars log trail → AreWithin vars trail
  within_of vars trail a = record {
    each = λ i p e. ap (λ n. is_literal n p.literal) (sym (length_truths vars (take i trail)))
        ∙ (put_open (truths_of vars (take i trail)) p.literal p.reason (a.each i p e)).within;
  }
