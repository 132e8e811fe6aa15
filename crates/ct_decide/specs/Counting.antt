-- How many assignments of truths satisfy clauses.
use Rattle.std.specs.Prelude.{ℕ, zero, suc, ◌+◌, Bool, true, false, List, [], ◌∷◌, if◌then◌else◌}
use Rattle.std.specs.List.{list_all}
use Rattle.ct_trail.specs.Literal.{Clause}
use Rattle.ct_sat.specs.Verdict.{satisfies}

-- how many lists of so many truths pass a test
unfoldable pub count : ℕ → (List Bool → Bool) → ℕ
count zero test = if test [] then 1 else 0
count (suc n) test = count n (λ bs. test (true ∷ bs)) + count n (λ bs. test (false ∷ bs))

-- how many assignments of these variables satisfy all clauses
unfoldable pub models : ℕ → List Clause → ℕ
models vars clauses = count vars (λ bs. list_all (satisfies bs) clauses)
