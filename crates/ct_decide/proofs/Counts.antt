-- Fewer assignments satisfy more clauses.
use Rattle.std.proofs.Common.{◌≡◌, ℕ, zero, suc, ◌<◌, ◌≤◌, Bool, true, false, ◌&&◌, List, [], ◌∷◌, ◌++◌, length, refl, ◌∙◌, sym, arith, if◌then◌else◌}
use Rattle.std.{specs.List.list_all, proofs.lemmas.Bool.{and_parts, false≢true}, proofs.lemmas.List.Folds.list_all-append}
use Rattle.ct_trail.specs.Literal.{Clause}
use Rattle.ct_sat.specs.Verdict.{satisfies}
use Rattle.ct_decide.specs.Counting.{count, models}

abbrev one : Bool → ℕ
one b = if b then 1 else 0

one_le : (a b : Bool) → (a ≡ true → b ≡ true) → one a ≤ one b
one_le false b h = omega arith
one_le true true h = omega arith
one_le true false h = absurd (false≢true (h refl))

one_less : (a b : Bool) → a ≡ false → b ≡ true → one a < one b
one_less false true h k = omega arith
one_less true b h k = absurd (false≢true (sym h))
one_less false false h k = absurd (false≢true k)

-- a test that is harder to pass
abbrev Implies : (List Bool → Bool) → (List Bool → Bool) → Type 0
Implies q p = (bs : List Bool) → q bs ≡ true → p bs ≡ true

count_le : (n : ℕ) (q p : List Bool → Bool) → Implies q p → count n q ≤ count n p
unfolding count
count_le zero q p h = one_le (q []) (p []) (h [])
count_le (suc n) q p h =
    let yes_part = count_le n (λ bs. q (true ∷ bs)) (λ bs. p (true ∷ bs)) (λ bs. h (true ∷ bs)) in
    let no_part = count_le n (λ bs. q (false ∷ bs)) (λ bs. p (false ∷ bs)) (λ bs. h (false ∷ bs)) in
    omega (arith, yes_part, no_part)

count_less : (n : ℕ) (q p : List Bool → Bool) → Implies q p → (m : List Bool) → length m ≡ n → q m ≡ false → p m ≡ true → count n q < count n p
unfolding count
count_less zero q p h [] e x y = one_less (q []) (p []) x y
count_less zero q p h (b ∷ m) e x y = absurd (omega (arith, e))
count_less (suc n) q p h [] e x y = absurd (omega (arith, e))
count_less (suc n) q p h (true ∷ m) e x y =
    let yes_part = count_less n (λ bs. q (true ∷ bs)) (λ bs. p (true ∷ bs)) (λ bs. h (true ∷ bs)) m (omega (arith, e)) x y in
    let no_part = count_le n (λ bs. q (false ∷ bs)) (λ bs. p (false ∷ bs)) (λ bs. h (false ∷ bs)) in
    omega (arith, yes_part, no_part)
count_less (suc n) q p h (false ∷ m) e x y =
    let yes_part = count_le n (λ bs. q (true ∷ bs)) (λ bs. p (true ∷ bs)) (λ bs. h (true ∷ bs)) in
    let no_part = count_less n (λ bs. q (false ∷ bs)) (λ bs. p (false ∷ bs)) (λ bs. h (false ∷ bs)) m (omega (arith, e)) x y in
    omega (arith, yes_part, no_part)

abbrev all_of : List Clause → List Bool → Bool
all_of cs bs = list_all (satisfies bs) cs

more_implies : (cs : List Clause) (c : Clause) → Implies (all_of (cs ++ c ∷ [])) (all_of cs)
more_implies cs c bs h = (and_parts (all_of cs bs) _ (sym (list_all-append (satisfies bs) cs (c ∷ [])) ∙ h)).0

pub models_le : (vars : ℕ) (cs : List Clause) (c : Clause) → models vars (cs ++ c ∷ []) ≤ models vars cs
unfolding models
models_le vars cs c = count_le vars (all_of (cs ++ c ∷ [])) (all_of cs) (more_implies cs c)

-- a clause that a model makes false leaves fewer models
pub models_less : (vars : ℕ) (cs : List Clause) (c : Clause) (m : List Bool) → length m ≡ vars → list_all (satisfies m) cs ≡ true → satisfies m c ≡ false → models vars (cs ++ c ∷ []) < models vars cs
unfolding models
models_less vars cs c m long all broken = count_less vars (all_of (cs ++ c ∷ [])) (all_of cs) (more_implies cs c) m long none all where
  none : all_of (cs ++ c ∷ []) m ≡ false
  none = list_all-append (satisfies m) cs (c ∷ []) ∙ both (all_of cs m) (satisfies m c) broken where
    both : (a b : Bool) → b ≡ false → (a && (b && true)) ≡ false
    both true false h = refl
    both false b h = refl
    both true true h = absurd (false≢true (sym h))
