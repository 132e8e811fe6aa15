-- A literal of the trail gets another reason.
use Rattle.std.proofs.Common.{◌≡◌, ◌+◌, ℕ, zero, suc, true, List, [], ◌∷◌, Option, Some, take, set, refl, ap, ◌∙◌, sym, subst, ℤ, inl, inr, ◌⊎◌, replicate}
use Rattle.std.{specs.Prelude.slice_get, proofs.lemmas.Option.{same_Some, none-some}}
use Rattle.std.proofs.lemmas.Bool.{and_from, or_left, or_right}
use Rattle.ct_trail.specs.{declared.assignment.Truth.Truth, declared.trail.Put.Put, Literal.{Clause, is_literal, has}}
use Rattle.ct_trail.specs.{Assignment.{truth_of, is_false, assigned, falsified_but, IsUnit, IsOpen}, Trail.{after, truths_of, IsPutBy, IsTrail}, Standing.{digit, full, worth}, Units.IsOwnReason}
use Rattle.ct_trail.proofs.{Literals.same_refl, Trails.put_open}
use Rattle.ct_trail.specs.declared.assignment.Truth.TheVariants as truth

-- the reasons play no part in the truths
same_after : (ts : List Truth) (trail : List Put) (i place : ℕ) (p : Put) → slice_get trail place ≡ Some p → (r : Option ℕ)
    → after ts (take i (set trail place (record { literal = p.literal; reason = r }))) ≡ after ts (take i trail)
same_after ts [] i place p e r = absurd (none-some p e)
same_after ts (q ∷ ps) zero zero p e r = refl
same_after ts (q ∷ ps) zero (suc place) p e r = refl
same_after ts (q ∷ ps) (suc i) zero p e r = ap (λ x. after (assigned ts x.literal) (take i ps)) (sym (same_Some q p e))
same_after ts (q ∷ ps) (suc i) (suc place) p e r = same_after (assigned ts q.literal) ps i place p e r

pub same_truths : (vars : ℕ) (trail : List Put) (place : ℕ) (p : Put) → slice_get trail place ≡ Some p → (r : Option ℕ)
    → truths_of vars (set trail place (record { literal = p.literal; reason = r })) ≡ truths_of vars trail
same_truths vars trail place p e r = all (replicate vars truth.Open) trail place e
  where
    all : (ts : List Truth) (ps : List Put) (n : ℕ) → slice_get ps n ≡ Some p → after ts (set ps n (record { literal = p.literal; reason = r })) ≡ after ts ps
    all ts [] n f = absurd (none-some p f)
    all ts (q ∷ ps) zero f = ap (λ x. after (assigned ts x.literal) ps) (sym (same_Some q p f))
    all ts (q ∷ ps) (suc n) f = all (assigned ts q.literal) ps n f

one_unit : (ts : List Truth) (l : ℤ) → IsOpen ts l → IsUnit ts (l ∷ []) l
unfolding has falsified_but
one_unit ts l o = record {
  is_free = o;
  member = or_left _ _ (same_refl l);
  others = and_from _ true (or_right (is_false (truth_of ts l)) _ (same_refl l)) refl;
}

-- what stands at a place after a write
set_there : (trail : List Put) (place i : ℕ) (p q x : Put) → slice_get trail place ≡ Some p → slice_get (set trail place q) i ≡ Some x → ((i ≡ place) × (q ≡ x)) ⊎ (slice_get trail i ≡ Some x)
set_there [] place i p q x e f = absurd (none-some p e)
set_there (y ∷ ps) zero zero p q x e f = inl (refl, same_Some q x f)
set_there (y ∷ ps) zero (suc i) p q x e f = inr f
set_there (y ∷ ps) (suc place) zero p q x e f = inr f
set_there (y ∷ ps) (suc place) (suc i) p q x e f = elim (set_there ps place i p q x e f) [ inl s ↦ inl (ap suc s.0, s.1) | inr s ↦ inr s ]

pub own_reason : (vars top : ℕ) (log : List Clause) (trail : List Put) (place position : ℕ) (o : IsOwnReason log trail place position) → IsTrail vars top log trail
    → IsTrail vars top log (set trail place (record { literal = o.put.literal; reason = Some position }))
own_reason vars top log trail place position o t =
    let p = o.put in
    let q : Put = record { literal = p.literal; reason = Some position } in
    record {
      each = λ i x e.
          let same = same_after (replicate vars truth.Open) trail i place p o.there (Some position) in
          subst (λ ts. IsPutBy log ts x.literal x.reason) (sym same)
          (elim (set_there trail place i p q x o.there e) [
            | inr s ↦ t.each i x s
            | inl s ↦
                let ts = truths_of vars (take i trail) in
                let was : IsOpen ts p.literal = put_open log ts p.literal p.reason (t.each i p (ap (slice_get trail) s.0 ∙ o.there)) in
                subst (λ y. IsPutBy log ts y.literal y.reason) s.1 (record { place = o.alone.within; unit = subst (λ c. IsUnit ts c p.literal) (sym o.alone.alone) (one_unit ts p.literal was) })
          ]);
      narrow = λ i x e. elim (set_there trail place i p q x o.there e) [
        | inr s ↦ t.narrow i x s
        | inl s ↦ ap (λ y. is_literal top y.literal) (sym s.1) ∙ t.narrow place p o.there
      ];
    }

-- one reason is worth what another is
pub same_worth : (n : ℕ) (trail : List Put) (place : ℕ) (p : Put) → slice_get trail place ≡ Some p → (j k : ℕ) → p.reason ≡ Some j
    → worth n (set trail place (record { literal = p.literal; reason = Some k })) ≡ worth n trail
same_worth zero trail place p e j k r = refl
same_worth (suc n) [] place p e j k r = absurd (none-some p e)
same_worth (suc n) (q ∷ ps) zero p e j k r =
    ap (λ d. digit d (full n) + worth n ps) (sym (ap (λ x. x.reason) (same_Some q p e) ∙ r))
same_worth (suc n) (q ∷ ps) (suc place) p e j k r = ap (λ w. digit q.reason (full n) + w) (same_worth n ps place p e j k r)
