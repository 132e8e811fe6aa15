-- What adding places to those that are there keeps.
use Rattle.std.proofs.Common.{◌≡◌, ℕ, ◌<◌, ◌≤◌, Bool, true, List, [], ◌∷◌, nat_eq, nat_lt, refl, sym, ◌∙◌, subst, arith, inl, inr}
use Rattle.std.{specs.Prelude.{IsTrue}, specs.List.{list_all, list_any}}
use Rattle.std.proofs.lemmas.Bool.{and_parts, and_from, or_left, or_right, or_cases, ltb-true, eqb-true, eq-eqb, false≢true, cases_lt}
use Rattle.ct_word.proofs.Items.{all_implied}
use Rattle.ct_rewrite.specs.Below.{AreAdded, IsClosedFrom}

member_any : (ps all : List ℕ) → ((k : ℕ) → list_any (nat_eq k) ps ≡ true → list_any (nat_eq k) all ≡ true) → (test : ℕ → Bool)
    → ((k : ℕ) → list_any (nat_eq k) all ≡ true → test k ≡ true) → list_all test ps ≡ true
member_any [] all inside test h = refl
member_any (p ∷ ps) all inside test h =
    and_from _ _ (h p (inside p (or_left _ _ (eq-eqb p p refl)))) (member_any ps all (λ k e. inside k (or_right _ _ e)) test h)

-- where all of these pass a test, each of them does
pub among : (test : ℕ → Bool) (k : ℕ) (ps : List ℕ) → IsTrue (list_all test ps) → list_any (nat_eq k) ps ≡ true → IsTrue (test k)
among test k [] e f = absurd (false≢true f)
among test k (p ∷ ps) e f =
    let q = and_parts _ _ e in
    elim (or_cases (nat_eq k p) (list_any (nat_eq k) ps) f) [
      | inl here ↦ subst (λ i. IsTrue (test i)) (sym (eqb-true k p here)) q.0
      | inr later ↦ among test k ps q.1 later
    ]

module _ (old new : ℕ → Bool) (ps : List ℕ) (by : AreAdded old new ps) where
  -- what was added is there
  pub added_there : IsTrue (list_all new ps)
  added_there = member_any ps ps (λ k e. e) new (λ k e. by k ∙ or_right _ _ e)

  -- what was there is there
  pub still_there : (qs : List ℕ) → IsTrue (list_all old qs) → IsTrue (list_all new qs)
  still_there qs e = all_implied old new (λ q f. by q ∙ or_left _ _ f) qs e

  -- what holds of what was there, and of what was added, holds of all that is there
  pub all_there : (test : ℕ → Bool) → ((k : ℕ) → IsTrue (old k) → IsTrue (test k)) → IsTrue (list_all test ps) → (k : ℕ) → IsTrue (new k) → IsTrue (test k)
  all_there test before now k e =
      elim (or_cases (old k) (list_any (nat_eq k) ps) (sym (by k) ∙ e)) [
        | inl first ↦ before k first
        | inr later ↦ among test k ps now later
      ]

-- with what the last place below a bound names, the places are closed from there on
pub closed_more : (parts : ℕ → List ℕ) (old new : ℕ → Bool) (bound i : ℕ) → AreAdded old new (parts i) → IsTrue (list_all (λ c. nat_lt c i) (parts i))
    → ((k : ℕ) → k < bound → IsTrue (old k) → k ≤ i) → IsClosedFrom parts bound old → IsClosedFrom parts i new
closed_more parts old new bound i by under last closed k le there =
    elim (or_cases (old k) (list_any (nat_eq k) (parts i)) (sym (by k) ∙ there)) [
      | inl before ↦ elim (cases_lt k bound) [
        | inl low ↦
            let e : i ≡ k = omega (arith, last k low before) in
            subst (λ j. IsTrue (list_all new (parts j))) e (added_there old new (parts i) by)
        | inr high ↦ still_there old new (parts i) by (parts k) (closed k (omega arith) before)
      ]
      | inr added ↦ absurd (omega (arith, ltb-true k i (among (λ c. nat_lt c i) k (parts i) under added)))
    ]
