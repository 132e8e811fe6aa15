-- Positions by their places.
use Rattle.std.proofs.Common.{◌≡◌, ℕ, zero, suc, ◌+◌, ◌<◌, ◌≤◌, Bool, true, false, cond, List, [], ◌∷◌, ◌++◌, length, take, get_or, nat_eq, nat_lt, nat_cmp, refl, ap, sym, subst, ◌∙◌, arith, inl, inr}
use Rattle.std.{specs.Prelude.{Contains, IsTrue, Result, Ok, Err, MatchResult}, specs.List.{AllByRecursion, list_all}, specs.List.Sorted.IsBinarySearchResult, proofs.lemmas.List.Sorted.searched}
use Rattle.std.proofs.lemmas.Bool.{and_parts, cases_lt, eq-eqb, eqb-true, ltb-true}
use Rattle.std.{proofs.lemmas.List.Elements.Contains-push_cases, proofs.lemmas.List.{take_more, get_or_default, get_or-take, get_or_push, get_or_append_left, length-take}}
use Rattle.ct_worlds.specs.Truths.{AreRising}
use Rattle.ct_rewrite.{specs.Below.{has, found, HasAt, Placement}, proofs.Passing.{any_of, of_any}}

not_same : (a b : ℕ) → (a ≡ b → ⊥) → nat_eq a b ≡ false
not_same a b other = by (nat_eq a b) refl where
  by : (t : Bool) → nat_eq a b ≡ t → t ≡ false
  by true e = absurd (other (eqb-true a b e))
  by false e = refl

rest_rises : (p : ℕ) (ps : List ℕ) → AreRising (p ∷ ps) → AreRising ps
rest_rises p ps up i j d lt within = up (suc i) (suc j) d (omega (arith, lt)) (omega (arith, within))

rises : (ps : List ℕ) → AreRising ps → (i j : ℕ) → i ≤ j → j < length ps → get_or ps i 0 ≤ get_or ps j 0
rises ps up i j le lt = elim (cases_lt i j) [ inl less ↦ omega (arith, up i j 0 less lt) | inr not_less ↦ let same : i ≡ j = omega (arith, le, not_less) in omega (arith, ap (λ k. get_or ps k 0) same) ]

-- a place is at least the number of those before it
pub at_least : (ps : List ℕ) → AreRising ps → (i : ℕ) → i < length ps → i ≤ get_or ps i 0
at_least ps up zero lt = omega arith
at_least ps up (suc i) lt = omega (arith, at_least ps up i (omega (arith, lt)), up i (suc i) 0 (omega arith) lt)

-- the position beside one of the places
found_at : (ps ks : List ℕ) (i q : ℕ) → AreRising ps → i < length ps → get_or ps i 0 ≡ q → found ps ks q ≡ get_or ks i 0
found_at [] ks i q up lt e = absurd (omega (arith, lt))
found_at (p ∷ ps) [] i q up lt e = refl
found_at (p ∷ ps) (k ∷ ks) zero q up lt e = ap (λ t. cond t k (found ps ks q)) (eq-eqb p q e)
found_at (p ∷ ps) (k ∷ ks) (suc i) q up lt e =
    ap (λ t. cond t k (found ps ks q)) (not_same p q (λ same. omega (arith, up 0 (suc i) 0 (omega arith) lt, e, same)))
    ∙ found_at ps ks i q (rest_rises p ps up) (omega (arith, lt)) e

-- no position stands beside another place
found_none : (ps ks : List ℕ) (q : ℕ) → ((i : ℕ) → i < length ps → get_or ps i 0 ≡ q → ⊥) → found ps ks q ≡ 0
found_none [] ks q other = refl
found_none (p ∷ ps) [] q other = refl
found_none (p ∷ ps) (k ∷ ks) q other =
    ap (λ t. cond t k (found ps ks q)) (not_same p q (other 0 (omega arith))) ∙ found_none ps ks q (λ i lt. other (suc i) (omega (arith, lt)))

-- a search finds the position of a place
pub found_by : (ps ks : List ℕ) (q : ℕ) (r : Result ℕ ℕ) → AreRising ps → IsBinarySearchResult (λ y. nat_cmp y q) ps r
    → MatchResult r (λ i. get_or ks i 0 ≡ found ps ks q) (λ i. 0 ≡ found ps ks q)
found_by ps ks q (Ok i) up b = let s = searched ps q (Ok i) b (rises ps up) in sym (found_at ps ks i q up s.0 s.1)
found_by ps ks q (Err i) up b =
    let s = searched ps q (Err i) b (rises ps up) in
    sym (found_none ps ks q (λ k lt e. elim (cases_lt k i) [ inl left ↦ omega (arith, s.1 k left, e) | inr right ↦ omega (arith, s.2 k right lt, e) ]))

-- a place with fewer before it than these is among the first ones
in_front : (xs : List ℕ) (i j q : ℕ) → j < i → j < length xs → get_or xs j q ≡ q → IsTrue (has (take i xs) q)
in_front xs i j q lt within e = any_of (take i xs) q (j, omega (arith, length-take i xs, lt, within), get_or-take i xs j q lt ∙ e)

-- what holds of each place and its position
module _ (P : ℕ → ℕ → Type 0) (t : Placement) where
  pub there_have : (there : ℕ → Bool) → ((k : ℕ) → IsTrue (there k) → HasAt P t k) → (ks : List ℕ) → IsTrue (list_all there ks) → AllByRecursion (HasAt P t) ks
  there_have there have [] e = tt
  there_have there have (k ∷ ks) e = let q = and_parts _ _ e in (have k q.0, there_have there have ks q.1)

  -- of the first places
  module _ (ps : List ℕ) (up : AreRising ps) (i : ℕ) (have : (k : ℕ) → IsTrue (has (take i ps) k) → HasAt P t k) where
    -- which are all
    pub have_all : length ps ≤ i → (k : ℕ) → IsTrue (has ps k) → HasAt P t k
    have_all le k e = let c = of_any ps k e in have k (in_front ps i c.0 k (omega (arith, le, c.1)) c.1 c.2)

    -- so of all that are lower than the next one
    have_below : i < length ps → (k : ℕ) → IsTrue (has ps k) → k < get_or ps i 0 → HasAt P t k
    have_below lt k e less =
        let c = of_any ps k e in
        let at : get_or ps c.0 0 ≡ k = get_or_default ps c.0 0 k c.1 ∙ c.2 in
        elim (cases_lt c.0 i) [
          | inl before ↦ have k (in_front ps i c.0 k before c.1 c.2)
          | inr after ↦ absurd (omega (arith, less, at, rises ps up i c.0 (omega (arith, after)) c.1))
        ]

    pub have_parts : i < length ps → (ks : List ℕ) → IsTrue (list_all (λ k. nat_lt k (get_or ps i 0)) ks) → IsTrue (list_all (has ps) ks) → AllByRecursion (HasAt P t) ks
    have_parts lt [] e f = tt
    have_parts lt (k ∷ ks) e f =
        let d = and_parts (nat_lt k (get_or ps i 0)) (list_all (λ k. nat_lt k (get_or ps i 0)) ks) e in
        let q = and_parts _ _ f in
        (have_below lt k q.0 (ltb-true k (get_or ps i 0) d.0), have_parts lt ks d.1 q.1)

    -- and of the next one, with its position
    pub have_more : i < length ps → t.places ≡ ps → length t.positions ≡ i → (Q : ℕ → ℕ → Type 0) → ((k v : ℕ) → P k v → Q k v) → (new : Placement) (v : ℕ)
        → new.places ≡ t.places → new.positions ≡ t.positions ++ v ∷ [] → Q (get_or ps i 0) v → (k : ℕ) → IsTrue (has (take (i + 1) ps) k) → HasAt Q new k
    have_more lt same long Q grow new v places put is k e =
        subst (Q k) (λ j. found (sym (places ∙ same) j) (sym put j) k)
        (elim (Contains-push_cases (take i ps) (get_or ps i 0) k (subst (λ l. Contains l k) (take_more ps i 0 lt) (of_any (take (i + 1) ps) k e))) [
          | inl before ↦
              let j = before.0 in
              let under : j < i = omega (arith, before.1, length-take i ps) in
              let within : j < length ps = omega (arith, under, lt) in
              let at : get_or ps j 0 ≡ k = get_or_default ps j 0 k within ∙ sym (get_or-take i ps j k under) ∙ before.2 in
              let as_before : found t.places t.positions k ≡ found ps (t.positions ++ v ∷ []) k =
              ap (λ l. found l t.positions k) same ∙ found_at ps t.positions j k up within at
              ∙ sym (get_or_append_left t.positions (v ∷ []) 0 j (omega (arith, under, long))) ∙ sym (found_at ps (t.positions ++ v ∷ []) j k up within at)
              in
              subst (Q k) as_before (grow k _ (have k (any_of (take i ps) k before)))
          | inr here ↦
              subst (Q k) (sym (found_at ps (t.positions ++ v ∷ []) i k up lt here ∙ get_or_push t.positions v 0 i (omega (arith, long))))
              (subst (λ q. Q q v) here is)
        ])
