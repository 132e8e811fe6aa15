-- What a trail is worth.
use Rattle.std.proofs.Common.{◌≡◌, ℕ, zero, suc, ◌+◌, ◌-◌, ◌<◌, ◌≤◌, List, [], ◌∷◌, ◌++◌, length, take, Option, Some, None, ap, ◌∙◌, arith}
use Rattle.std.specs.Prelude.{slice_get}
use Rattle.ct_trail.specs.declared.trail.Put.{Put}
use Rattle.ct_trail.specs.Standing.{Standing, full, digit, worth, worth_of}

full_positive : (n : ℕ) → 0 < full n
full_positive zero = omega arith
full_positive (suc n) = omega (arith, full_positive n)

digit_most : (r : Option ℕ) (unit : ℕ) → digit r unit ≤ unit + unit
digit_most None unit = omega arith
digit_most (Some k) unit = omega arith

digit_least : (r : Option ℕ) (unit : ℕ) → unit ≤ digit r unit
digit_least None unit = omega arith
digit_least (Some k) unit = omega arith

pub worth_below : (n : ℕ) (ps : List Put) → worth n ps < full n
worth_below zero ps = omega arith
worth_below (suc n) [] = full_positive (suc n)
worth_below (suc n) (p ∷ ps) = omega (arith, worth_below n ps, digit_most p.reason (full n))

-- one more literal is worth something
pub worth_push : (n : ℕ) (ps : List Put) (p : Put) → length ps < n → worth n ps < worth n (ps ++ p ∷ [])
worth_push zero ps p lt = absurd (omega arith)
worth_push (suc n) [] p lt = omega (arith, full_positive n, digit_least p.reason (full n))
worth_push (suc n) (q ∷ ps) p lt = let h : length ps < n = omega arith in omega (arith, worth_push n ps p h)

-- a literal with a reason is worth more than a decision and all that stands behind it
pub worth_back : (n : ℕ) (ps : List Put) (d : ℕ) (q p : Put) (k : ℕ) → slice_get ps d ≡ Some q → q.reason ≡ None → p.reason ≡ Some k → length ps ≤ n → worth n ps < worth n (take d ps ++ p ∷ [])
worth_back n [] d q p k at none some le = cc
worth_back zero (x ∷ ps) d q p k at none some le = absurd (omega arith)
worth_back (suc n) (x ∷ ps) zero q p k at none some le =
    let x_is : x ≡ q = cc in
    let before = ap (λ r. digit r (full n)) (ap (λ (y : Put). y.reason) x_is ∙ none) in
    let after = ap (λ r. digit r (full n)) some in
    omega (arith, worth_below n ps, before, after)
worth_back (suc n) (x ∷ ps) (suc d) q p k at none some le =
    let h : length ps ≤ n = omega arith in
    omega (arith, worth_back n ps d q p k at none some h)

-- what a search can still gain falls as its trail is worth more
pub left_falls : (s t : Standing) → t.vars ≡ s.vars → worth_of s < worth_of t → full t.vars - worth_of t < full s.vars - worth_of s
left_falls s t vars lt = omega (arith, ap full vars, worth_below t.vars t.trail)
