-- Two tuples, compared at some positions and at all others.
use Rattle.std.proofs.Common.{◌≡◌, ℕ, zero, suc, ◌<◌, Bool, true, false, not, ◌&&◌, ◌||◌, List, [], ◌∷◌, length, nat_eq, refl, ap, sym, subst, ◌∙◌, arith, inl, inr}
use Rattle.std.{specs.Prelude.{All, Contains}, specs.Bool.Decides, specs.List.list_any, proofs.lemmas.Bool.{false≢true, cases_eq, and_parts, and_from, or_cases, or_left, or_right}}
use Rattle.std.proofs.lemmas.Bool.Decides.{same_from_decides, Decides-like, Decides-eqb}
use Rattle.std.{proofs.lemmas.List.ext_get_or, proofs.lemmas.List.Sums.{AllPass-from_list_all, list_all-from_AllPass}}
use Rattle.std.proofs.lemmas.List.Elements.{All-contains, All-contains_itself}
use Rattle.ct_word.{specs.declared.values.Value.Value, specs.Value.{same_value, same_tuple, cell_at, other_zero}, proofs.Alike.{value_decides, tuple_decides}}
use Rattle.ct_word.proofs.Items.{first_item, later_item, item_cases, no_item}
use Rattle.ct_operators.proofs.Reaching.{both_all}
use Rattle.ct_query.specs.Assertions.{agree, clash}
use Rattle.ct_constraint.specs.Comparing.{is_in, same_below}

counted : (b x : Bool) → b ≡ true → (not b || x) ≡ true → x ≡ true
counted true x e h = h
counted false x e h = absurd (false≢true e)

where_counted : (b x : Bool) → (b ≡ true → x ≡ true) → (not b || x) ≡ true
where_counted true x f = f refl
where_counted false x f = refl

-- an item is in a list where one is the same
pub in_list : {X : Type 0} (same : X → X → Bool) → ((x y : X) → Decides (same x y) (x ≡ y)) → (xs : List X) (y : X) → Decides (list_any (λ x. same x y) xs) (Contains xs y)
in_list same decides xs y = (there xs, found xs) where
  there : (xs : List _) → list_any (λ x. same x y) xs ≡ true → Contains xs y
  there [] e = absurd (false≢true e)
  there (x ∷ xs) e = elim (or_cases (same x y) (list_any (λ x. same x y) xs) e) [
    | inl q ↦ subst (Contains (x ∷ xs)) ((decides x y).0 q) (first_item xs x)
    | inr r ↦ later_item xs x y (there xs r)
  ]

  found : (xs : List _) → Contains xs y → list_any (λ x. same x y) xs ≡ true
  found [] h = absurd (no_item y h)
  found (x ∷ xs) h = elim (item_cases xs x y h) [
    | inl q ↦ or_left (same x y) (list_any (λ x. same x y) xs) ((decides x y).1 q)
    | inr r ↦ or_right (same x y) (list_any (λ x. same x y) xs) (found xs r)
  ]

-- the positions that pass a test, and those that do not
regrouped : (a b c x : Bool) → ((a && (not c || x)) && (b && (not (not c) || x))) ≡ ((a && b) && x)
regrouped false b c x = refl
regrouped true b false x = refl
regrouped true true true true = refl
regrouped true true true false = refl
regrouped true false true true = refl
regrouped true false true false = refl

and_not_both : (a b : Bool) → (a && not b) ≡ (a && not (a && b))
and_not_both true b = refl
and_not_both false b = refl

module _ (s t : List Value) where
  module _ (test : ℕ → Bool) where
    abbrev SameBelow : ℕ → Type 0
    SameBelow n = (k : ℕ) → k < n → test k ≡ true → same_value (cell_at s k) (cell_at t k) ≡ true

    below_is : (n : ℕ) → same_below n test s t ≡ true → SameBelow n
    below_is zero e k lt is = absurd (omega (arith, lt))
    below_is (suc n) e k lt is =
        let parts = and_parts (same_below n test s t) (not (test n) || same_value (cell_at s n) (cell_at t n)) e in
        elim (cases_eq k n) [
          | inl q ↦
              subst (λ j. same_value (cell_at s j) (cell_at t j) ≡ true) (sym q)
              (counted (test n) (same_value (cell_at s n) (cell_at t n)) (subst (λ j. test j ≡ true) q is) parts.1)
          | inr ne ↦ below_is n parts.0 k (omega (arith, lt, ne)) is
        ]

    is_below : (n : ℕ) → SameBelow n → same_below n test s t ≡ true
    is_below zero each = refl
    is_below (suc n) each =
        and_from (same_below n test s t) (not (test n) || same_value (cell_at s n) (cell_at t n)) (is_below n (λ k lt is. each k (omega (arith, lt)) is))
        (where_counted (test n) (same_value (cell_at s n) (cell_at t n)) (each n (omega arith)))

    below_decides : (n : ℕ) → Decides (same_below n test s t) (SameBelow n)
    below_decides n = (below_is n, is_below n)

    -- together these are all positions
    both_are : (n : ℕ) → (same_below n test s t && same_below n (λ k. not (test k)) s t) ≡ same_below n (λ k. true) s t
    both_are zero = refl
    both_are (suc n) =
        regrouped (same_below n test s t) (same_below n (λ k. not (test k)) s t) (test n) (same_value (cell_at s n) (cell_at t n))
        ∙ ap (λ b. b && same_value (cell_at s n) (cell_at t n)) (both_are n)

  -- two tuples agree at positions within them
  module _ (ks : List ℕ) (n : ℕ) (within : All (λ k. k < n) ks) where
    agree_decides : Decides (agree ks s t) (SameBelow (is_in ks) n)
    agree_decides = (
      λ e k lt is. All-contains (λ j. same_value (cell_at s j) (cell_at t j) ≡ true) ks k (AllPass-from_list_all (λ j. same_value (cell_at s j) (cell_at t j)) ks e) ((in_list nat_eq Decides-eqb ks k).0 is),
      λ each. list_all-from_AllPass (λ j. same_value (cell_at s j) (cell_at t j)) ks
          (both_all (λ k. k < n) (Contains ks) (λ j. same_value (cell_at s j) (cell_at t j) ≡ true) (λ k lt h. each k lt ((in_list nat_eq Decides-eqb ks k).1 h)) ks within (All-contains_itself ks)),
    )

    inside_is : same_below n (is_in ks) s t ≡ agree ks s t
    inside_is = same_from_decides (same_below n (is_in ks) s t) (agree ks s t) (below_decides (is_in ks) n) agree_decides

  -- tuples that are the same at all positions
  module _ (n : ℕ) (left : length s ≡ n) (right : length t ≡ n) where
    all_are : same_below n (λ k. true) s t ≡ same_tuple s t
    all_are = same_from_decides (same_below n (λ k. true) s t) (same_tuple s t)
        (Decides-like (same_below n (λ k. true) s t)
        (λ (each : SameBelow (λ k. true) n). ext_get_or other_zero s t (left ∙ sym right)
        (λ i lt. (value_decides (cell_at s i) (cell_at t i)).0 (each i (subst (λ m. i < m) left lt) refl)))
        (λ e k lt is. (value_decides (cell_at s k) (cell_at t k)).1 (ap (λ l. cell_at l k) e))
        (below_decides (λ k. true) n))
        (tuple_decides s t)

    -- two tuples that agree at positions and not at all others
    pub clash_is : (ks : List ℕ) → All (λ k. k < n) ks → (same_below n (is_in ks) s t && not (same_below n (λ k. not (is_in ks k)) s t)) ≡ clash ks s t
    clash_is ks within =
        and_not_both (same_below n (is_in ks) s t) (same_below n (λ k. not (is_in ks k)) s t)
        ∙ (λ i. inside_is ks n within i && not ((both_are (is_in ks) n ∙ all_are) i))
