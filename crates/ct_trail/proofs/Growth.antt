-- A trail, as it grows and is cut.
use Rattle.std.proofs.Common.{◌≡◌, ℕ, zero, suc, ◌+◌, ◌<◌, ◌≤◌, true, List, [], ◌∷◌, ◌++◌, length, take, set, replicate, Option, Some, None, refl, ap, ◌∙◌, sym, subst, arith, ℤ, inl, inr, ◌⊎◌}
use Rattle.std.{specs.Prelude.slice_get, proofs.lemmas.List.{length-replicate, get_or_append_left, length-append}, proofs.lemmas.List.Sums.sum_by-cons}
use Rattle.ct_trail.specs.{declared.assignment.Truth.Truth, declared.trail.Put.Put, Literal.{Clause, is_literal, place_of}}
use Rattle.ct_trail.specs.{Assignment.{assigned, open_weight, open_count, IsOpen, IsUnit}, Trail.{after, truths_of, IsPutBy, IsTrail}}
use Rattle.ct_trail.proofs.Assignments.{length_assigned, fewer_open, reopened, wider}
use Rattle.ct_trail.specs.declared.assignment.Truth.TheVariants as truth

after_append : (ts : List Truth) (a b : List Put) → after ts (a ++ b) ≡ after (after ts a) b
after_append ts [] b = refl
after_append ts (p ∷ a) b = after_append (assigned ts p.literal) a b

length_after : (ts : List Truth) (ps : List Put) → length (after ts ps) ≡ length ts
length_after ts [] = refl
length_after ts (p ∷ ps) = length_after (assigned ts p.literal) ps ∙ length_assigned ts p.literal

-- each variable has a truth, or is open
pub length_truths : (vars : ℕ) (ps : List Put) → length (truths_of vars ps) ≡ vars
length_truths vars ps = length_after (replicate vars truth.Open) ps ∙ length-replicate vars truth.Open

pub truths_push : (vars : ℕ) (ps : List Put) (p : Put) → truths_of vars (ps ++ p ∷ []) ≡ assigned (truths_of vars ps) p.literal
truths_push vars ps p = after_append (replicate vars truth.Open) ps (p ∷ [])

pub put_open : (log : List Clause) (ts : List Truth) (l : ℤ) (r : Option ℕ) → IsPutBy log ts l r → IsOpen ts l
put_open log ts l None h = h
put_open log ts l (Some k) h = h.unit.is_free

-- the literal at a place
take_put : (ps : List Put) (i : ℕ) → i < length ps → (p : Put) × (slice_get ps i ≡ Some p) × (take (suc i) ps ≡ take i ps ++ p ∷ [])
take_put [] i lt = absurd (omega arith)
take_put (p ∷ ps) zero lt = (p, refl, refl)
take_put (p ∷ ps) (suc i) lt =
    let rest = take_put ps i (omega arith) in
    (rest.0, rest.1, ap (λ x. p ∷ x) rest.2)

take_all : (ps : List Put) → take (length ps) ps ≡ ps
take_all [] = refl
take_all (p ∷ ps) = ap (λ x. p ∷ x) (take_all ps)

take_front : (ps more : List Put) (i : ℕ) → i ≤ length ps → take i (ps ++ more) ≡ take i ps
take_front ps more zero le = refl
take_front [] more (suc i) le = absurd (omega arith)
take_front (p ∷ ps) more (suc i) le = ap (λ x. p ∷ x) (take_front ps more i (omega arith))

take_take : (ps : List Put) (n i : ℕ) → i ≤ n → take i (take n ps) ≡ take i ps
take_take ps n zero le = refl
take_take [] zero (suc i) le = refl
take_take [] (suc n) (suc i) le = refl
take_take (p ∷ ps) zero (suc i) le = absurd (omega arith)
take_take (p ∷ ps) (suc n) (suc i) le = ap (λ x. p ∷ x) (take_take ps n i (omega arith))

get_take : (ps : List Put) (n i : ℕ) (p : Put) → slice_get (take n ps) i ≡ Some p → (i < n) × (slice_get ps i ≡ Some p)
get_take ps zero i p e = cc
get_take [] (suc n) i p e = cc
get_take (x ∷ ps) (suc n) zero p e = (omega arith, e)
get_take (x ∷ ps) (suc n) (suc i) p e = let rest = get_take ps n i p e in (omega arith, rest.1)

get_push : (ps : List Put) (x : Put) (i : ℕ) (p : Put) → slice_get (ps ++ x ∷ []) i ≡ Some p → ((i < length ps) × (slice_get ps i ≡ Some p)) ⊎ ((i ≡ length ps) × (p ≡ x))
get_push [] x zero p e = inr (refl, cc)
get_push [] x (suc i) p e = cc
get_push (y ∷ ps) x zero p e = inl (omega arith, e)
get_push (y ∷ ps) x (suc i) p e =
    elim (get_push ps x i p e) [
      | inl h ↦ let lt = h.0 in inl (omega arith, h.1)
      | inr h ↦ let is = h.0 in inr (ap suc is, h.1)
    ]

open_all : (n : ℕ) → open_count (replicate n truth.Open) ≡ n
unfolding open_count
open_all zero = refl
open_all (suc n) =
    omega (arith, sum_by-cons open_weight truth.Open (replicate n truth.Open), open_all n)

module _ (vars top : ℕ) (log : List Clause) where
  counted : (ps : List Put) → IsTrail vars top log ps → (i : ℕ) → i ≤ length ps → i + open_count (truths_of vars (take i ps)) ≡ vars
  counted ps h zero le = omega (arith, open_all vars)
  counted ps h (suc i) le =
      let lt : i < length ps = omega arith in
      let here = take_put ps i lt in
      let ts = truths_of vars (take i ps) in
      let o = put_open log ts here.0.literal here.0.reason (h.each i here.0 here.1) in
      let rest = counted ps h i (omega arith) in
      let is = ap open_count (ap (truths_of vars) here.2 ∙ truths_push vars (take i ps) here.0) in
      omega (arith, fewer_open ts here.0.literal o, rest, is)

  -- a trail has at most a literal for each variable
  pub short : (ps : List Put) → IsTrail vars top log ps → length ps + open_count (truths_of vars ps) ≡ vars
  short ps h = ap (λ x. length ps + open_count (truths_of vars x)) (sym (take_all ps)) ∙ counted ps h (length ps) (omega arith)

  -- and fewer where a literal is open
  pub shorter : (ps : List Put) (l : ℤ) → IsTrail vars top log ps → IsOpen (truths_of vars ps) l → length ps < vars
  shorter ps l h o = omega (arith, short ps h, fewer_open (truths_of vars ps) l o)

  pub trail_push : (ps : List Put) (x : Put) → IsTrail vars top log ps → IsPutBy log (truths_of vars ps) x.literal x.reason → is_literal top x.literal ≡ true → IsTrail vars top log (ps ++ x ∷ [])
  trail_push ps x h by within =
      let each : (i : ℕ) (p : Put) → slice_get (ps ++ x ∷ []) i ≡ Some p → IsPutBy log (truths_of vars (take i (ps ++ x ∷ []))) p.literal p.reason =
      λ (i : ℕ) (p : Put) (e : slice_get (ps ++ x ∷ []) i ≡ Some p).
      elim (get_push ps x i p e) [
        | inl g ↦ let le : i ≤ length ps = let lt = g.0 in omega arith in
            subst (λ (q : List Put). IsPutBy log (truths_of vars q) p.literal p.reason) (sym (take_front ps (x ∷ []) i le)) (h.each i p g.1)
        | inr g ↦ let le : i ≤ length ps = let is = g.0 in omega arith in
            let whole : take i (ps ++ x ∷ []) ≡ ps = take_front ps (x ∷ []) i le ∙ ap (λ n. take n ps) g.0 ∙ take_all ps in
            subst (λ (q : List Put). IsPutBy log (truths_of vars q) p.literal p.reason) (sym whole)
            (subst (λ (q : Put). IsPutBy log (truths_of vars ps) q.literal q.reason) (sym g.1) by)
      ] in
      let narrow : (i : ℕ) (p : Put) → slice_get (ps ++ x ∷ []) i ≡ Some p → is_literal top p.literal ≡ true =
      λ (i : ℕ) (p : Put) (e : slice_get (ps ++ x ∷ []) i ≡ Some p).
      elim (get_push ps x i p e) [ inl g ↦ h.narrow i p g.1 | inr g ↦ ap (λ (q : Put). is_literal top q.literal) g.1 ∙ within ] in
      record { each = each; narrow = narrow }

  pub trail_cut : (ps : List Put) (n : ℕ) → IsTrail vars top log ps → IsTrail vars top log (take n ps)
  trail_cut ps n h =
      let each : (i : ℕ) (p : Put) → slice_get (take n ps) i ≡ Some p → IsPutBy log (truths_of vars (take i (take n ps))) p.literal p.reason =
      λ (i : ℕ) (p : Put) (e : slice_get (take n ps) i ≡ Some p).
      let g = get_take ps n i p e in
      let le : i ≤ n = let lt = g.0 in omega arith in
      subst (λ (q : List Put). IsPutBy log (truths_of vars q) p.literal p.reason) (sym (take_take ps n i le)) (h.each i p g.1) in
      record { each = each; narrow = λ i p e. h.narrow i p (get_take ps n i p e).1 }

put_more : (log more : List Clause) (ts : List Truth) (l : ℤ) (r : Option ℕ) → IsPutBy log ts l r → IsPutBy (log ++ more) ts l r
put_more log more ts l None h = h
put_more log more ts l (Some k) h = record {
  place = let lt = h.place in omega (arith, length-append log more);
  unit = subst (λ c. IsUnit ts c l) (sym (get_or_append_left log more [] k h.place)) h.unit;
}

-- a trail stays one as the log grows
pub trail_log : (vars top wide : ℕ) (log more : List Clause) (ps : List Put) → top ≤ wide → IsTrail vars top log ps → IsTrail vars wide (log ++ more) ps
trail_log vars top wide log more ps le h = record {
  each = λ i p e. put_more log more (truths_of vars (take i ps)) p.literal p.reason (h.each i p e);
  narrow = λ i p e. wider top wide p.literal le (h.narrow i p e);
}

pub get_last : (ps : List Put) (x : Put) → slice_get (ps ++ x ∷ []) (length ps) ≡ Some x
get_last [] x = refl
get_last (p ∷ ps) x = get_last ps x

-- the last literal, once it is taken back
pub taken_back : (vars top : ℕ) (log : List Clause) (ps : List Put) (x : Put) → IsTrail vars top log (ps ++ x ∷ []) → set (truths_of vars (ps ++ x ∷ [])) (place_of x.literal) truth.Open ≡ truths_of vars ps
taken_back vars top log ps x h =
    let at = get_last ps x in
    let by = h.each (length ps) x at in
    let front : take (length ps) (ps ++ x ∷ []) ≡ ps = take_front ps (x ∷ []) (length ps) (omega arith) ∙ take_all ps in
    let o = subst (λ (q : List Put). IsOpen (truths_of vars q) x.literal) front (put_open log _ x.literal x.reason by) in
    ap (λ ts. set ts (place_of x.literal) truth.Open) (truths_push vars ps x) ∙ reopened (truths_of vars ps) x.literal o
