-- Lists that are made in parts.
use Rattle.std.proofs.Common.{◌≡◌, ◌<◌, ◌≤◌, ◌+◌, ◌-◌, ◌*◌, ◌/◌, ℕ, nat_eq, min, Bool, true, false, if◌then◌else◌, List, [], ◌∷◌, ◌++◌, length, length-append, length-take-le, take, drop, take-append-drop, take-take, take_all, get_or, add-mul, one-mul, arith, refl, ap, ap₂, sym, subst, ◌∙◌}
use Rattle.std.{specs.Prelude.{Result, Ok}, proofs.lemmas.Bool.{eqb-true, eq-eqb}, proofs.lemmas.List.{get_or_append_left, drop-take}}
use Rattle.std.proofs.Math.Seq.{get_or-append_seam}
use Rattle.ct_serve.specs.Joined.{AreJoined, none, more, bound_of, part_of}

-- what holds of no part, and of one part more where it holds of those before, holds of all
pub by_parts : {V E X : Type 0} (items : V → List X) (P : ℕ → List X → Type 0) (rs : List (Result V E)) (xs : List X) → AreJoined items rs xs → P 0 []
    → ((k : ℕ) (part : V) (before : List X) → k < length rs → get_or rs k (Ok part) ≡ Ok part → P k before → P (k + 1) (before ++ items part)) → P (length rs) xs
by_parts items P _ _ none first step = first
by_parts items P _ _ (more rs xs part before) first step =
    let longer : length (rs ++ Ok part ∷ []) ≡ length rs + 1 = length-append rs (Ok part ∷ []) in
    let so_far = by_parts items P rs xs before first (λ k p ys lt is. step k p ys (omega (arith, lt, longer)) (get_or_append_left rs (Ok part ∷ []) (Ok p) k lt ∙ is)) in
    subst (λ n. P n (xs ++ items part)) (sym longer) (step (length rs) part xs (omega (arith, longer)) (get_or-append_seam rs (Ok part) [] (Ok part)) so_far)

-- the first part begins at the list's first place
pub first_bound : (len parts : ℕ) → 0 < parts → bound_of len parts 0 ≡ 0
first_bound len parts some = by_test (nat_eq 0 parts) refl where
  by_test : (b : Bool) → nat_eq 0 parts ≡ b → bound_of len parts 0 ≡ 0
  by_test true p = let none : 0 ≡ parts = eqb-true 0 parts p in omega (arith, some, none)
  by_test false p = ap (λ b. if b then len else min (0 * (len / parts)) len) p ∙ omega arith

-- the last one ends where the list does
pub last_bound : (len parts : ℕ) → bound_of len parts parts ≡ len
last_bound len parts = ap (λ b. if b then len else min (parts * (len / parts)) len) (eq-eqb parts parts refl)

-- no part ends before it begins, or after the list
pub bounds_rise : (len parts k : ℕ) → k < parts → (bound_of len parts k ≤ bound_of len parts (k + 1)) × (bound_of len parts (k + 1) ≤ len)
bounds_rise len parts k lt = by_test (nat_eq k parts) refl (nat_eq (k + 1) parts) refl where
  by_test : (b : Bool) → nat_eq k parts ≡ b → (b' : Bool) → nat_eq (k + 1) parts ≡ b' → (bound_of len parts k ≤ bound_of len parts (k + 1)) × (bound_of len parts (k + 1) ≤ len)
  by_test true p _ _ = let same : k ≡ parts = eqb-true k parts p in absurd (omega (arith, lt, same))
  by_test false p b' p' = rw (p, p') (ends b') where
    ends : (b' : Bool) → (min (k * (len / parts)) len ≤ (if b' then len else min ((k + 1) * (len / parts)) len)) × ((if b' then len else min ((k + 1) * (len / parts)) len) ≤ len)
    ends true = (omega arith, omega arith)
    ends false = (omega (arith, add-mul k 1 (len / parts), one-mul (len / parts)), omega arith)

-- the items up to the end of a part
up_to : {X : Type 0} (xs : List X) (parts k : ℕ) → k < parts → take (bound_of (length xs) parts k) xs ++ part_of parts k xs ≡ take (bound_of (length xs) parts (k + 1)) xs
up_to xs parts k lt =
    let from = bound_of (length xs) parts k in
    let upto = bound_of (length xs) parts (k + 1) in
    let rises = bounds_rise (length xs) parts k lt in
    let size : from + (upto - from) ≡ upto = omega (arith, rises.0) in
    ap₂ (λ a b. a ++ b) (sym (take-take from upto xs rises.0)) (sym (drop-take from (upto - from) xs) ∙ ap (λ n. drop from (take n xs)) size) ∙ take-append-drop from (take upto xs)

-- items that are numbered in each part are numbered in the whole
pub numbered_in_parts : {V E X Y : Type 0} (items : V → List Y) (f : ℕ → List X → List Y) → ((m : ℕ) (front back : List X) → f m (front ++ back) ≡ f m front ++ f (m + length front) back) → f 1 [] ≡ []
    → (xs : List X) (parts : ℕ) → 0 < parts → (rs : List (Result V E)) (ys : List Y) → AreJoined items rs ys → length rs ≡ parts
    → ((k : ℕ) (part : V) → k < parts → get_or rs k (Ok part) ≡ Ok part → items part ≡ f (bound_of (length xs) parts k + 1) (part_of parts k xs)) → ys ≡ f 1 xs
numbered_in_parts items f split nothing xs parts some rs ys joined count each =
    by_parts items (λ k ys. ys ≡ f 1 (take (bound_of (length xs) parts k) xs)) rs ys joined (sym (ap (λ b. f 1 (take b xs)) (first_bound (length xs) parts some) ∙ nothing))
    (λ k part before lt is so_far.
    let within : k < parts = omega (arith, lt, count) in
    let front = take (bound_of (length xs) parts k) xs in
    let rises = bounds_rise (length xs) parts k within in
    let long : bound_of (length xs) parts k + 1 ≡ 1 + length front = omega (arith, length-take-le (bound_of (length xs) parts k) xs (omega (arith, rises.0, rises.1))) in
    ap₂ (λ a b. a ++ b) so_far (each k part within is ∙ ap (λ m. f m (part_of parts k xs)) long) ∙ sym (split 1 front (part_of parts k xs)) ∙ ap (f 1) (up_to xs parts k within))
    ∙ ap (λ k. f 1 (take (bound_of (length xs) parts k) xs)) count ∙ ap (λ n. f 1 (take n xs)) (last_bound (length xs) parts) ∙ ap (f 1) (take_all (length xs) xs (omega arith))
