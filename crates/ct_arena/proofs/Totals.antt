-- Totals over lists that change at one place.
use Rattle.std.{proofs.Common.{◌≡◌, ℕ, zero, suc, ◌+◌, ◌≤◌, List, [], ◌∷◌, ◌++◌, length, set, sym, refl, ap, ◌∙◌, arith}, specs.Prelude.sum_by}
use Rattle.std.proofs.lemmas.List.Sums.{sum_by-cons}
use Rattle.ct_arena.specs.Sharing.{total}
use mathlib.Core.Option.{some, some-injective, some-ne-none}
use lib.ListN.{get_elem?}

module _ {A : Type 0} where
  pub total_append : (g : A → ℕ) (l m : List A) → total g (l ++ m) ≡ total g l + total g m
  total_append g [] m = omega arith
  total_append g (x ∷ xs) m = omega (arith, total_append g xs m)

  pub total_set : (g : A → ℕ) (l : List A) (j : ℕ) (v w : A) → get_elem? l j ≡ some v → total g (set l j w) + g v ≡ total g l + g w
  total_set g [] j v w e = absurd (some-ne-none v (sym e))
  total_set g (x ∷ xs) zero v w e = omega (arith, ap g (some-injective x v e))
  total_set g (x ∷ xs) (suc j) v w e = omega (arith, total_set g xs j v w e)

  pub term_le : (g : A → ℕ) (l : List A) (j : ℕ) (v : A) → get_elem? l j ≡ some v → g v ≤ total g l
  term_le g [] j v e = absurd (some-ne-none v (sym e))
  term_le g (x ∷ xs) zero v e = omega (arith, ap g (some-injective x v e))
  term_le g (x ∷ xs) (suc j) v e = omega (arith, term_le g xs j v e)

  pub total_one : (l : List A) → total (λ _. 1) l ≡ length l
  total_one [] = refl
  total_one (x ∷ xs) = omega (arith, total_one xs)

  pub total_by : (g : A → ℕ) (l : List A) → sum_by g l ≡ total g l
  total_by g [] = refl
  total_by g (x ∷ xs) = sum_by-cons g x xs ∙ omega (arith, total_by g xs)

  -- where b is 0 wherever a is, a list that weighs nothing by a weighs nothing by b
  pub nothing : (a b : A → ℕ) → ((x : A) → a x ≡ 0 → b x ≡ 0) → (l : List A) → total a l ≡ 0 → total b l ≡ 0
  nothing a b f [] e = refl
  nothing a b f (x ∷ xs) e = omega (arith, f x (omega arith), nothing a b f xs (omega arith))

  -- what has all the weight by a has all of it by b
  pub whole_weight : (a b : A → ℕ) → ((x : A) → a x ≡ 0 → b x ≡ 0) → (l : List A) (j : ℕ) (v : A) → get_elem? l j ≡ some v → total a l ≤ a v → total b l ≡ b v
  whole_weight a b f [] j v e le = absurd (some-ne-none v (sym e))
  whole_weight a b f (x ∷ xs) zero v e le =
      let same : x ≡ v = some-injective x v e in
      omega (arith, ap a same, ap b same, nothing a b f xs (let q : a x ≡ a v = ap a same in omega arith))
  whole_weight a b f (x ∷ xs) (suc j) v e le =
      let part = term_le a xs j v e in
      omega (arith, f x (omega arith), whole_weight a b f xs j v e (omega arith))
