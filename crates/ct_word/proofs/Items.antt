-- Items of lists, by where they stand and as members.
use Rattle.std.proofs.Common.{◌≡◌, ℕ, zero, suc, ◌<◌, Bool, true, List, [], ◌∷◌, ◌++◌, length, map, get_or, Some, refl, sym, ◌∙◌, subst, arith, inl, inr, ◌⊎◌}
use Rattle.std.{specs.Prelude.{slice_get, Contains}, specs.List.{flat_map, list_all}, proofs.lemmas.Bool.{and_parts, and_from}}
use Rattle.std.{proofs.lemmas.Option.{slice_get_within, get_or_from_slice_get}, proofs.lemmas.List.Elements.{Contains-append_left, Contains-append_right}}

pub get_front : {X : Type 0} (xs ys : List X) (k : ℕ) → k < length xs → slice_get (xs ++ ys) k ≡ slice_get xs k
get_front [] ys k lt = absurd (omega arith)
get_front (x ∷ xs) ys zero lt = refl
get_front (x ∷ xs) ys (suc k) lt = get_front xs ys k (omega arith)

-- an item stays where it is when others come behind it
pub get_append : {X : Type 0} (xs ys : List X) (k : ℕ) (x : X) → slice_get xs k ≡ Some x → slice_get (xs ++ ys) k ≡ Some x
get_append xs ys k x e = get_front xs ys k (slice_get_within xs k x e) ∙ e

-- the item that was put at the end
pub get_last : {X : Type 0} (xs : List X) (x : X) (k : ℕ) → k ≡ length xs → slice_get (xs ++ x ∷ []) k ≡ Some x
get_last [] x zero e = refl
get_last [] x (suc k) e = absurd (omega arith)
get_last (y ∷ xs) x zero e = absurd (omega arith)
get_last (y ∷ xs) x (suc k) e = get_last xs x k (omega arith)

-- what stands at a place of a list is in it
pub contains_of_get : {X : Type 0} (xs : List X) (k : ℕ) (x : X) → slice_get xs k ≡ Some x → Contains xs x
contains_of_get xs k x e = (k, slice_get_within xs k x e, get_or_from_slice_get xs k x x e)

pub first_item : {X : Type 0} (xs : List X) (x : X) → Contains (x ∷ xs) x
first_item xs x = (zero, omega arith, refl)

pub later_item : {X : Type 0} (xs : List X) (y x : X) → Contains xs x → Contains (y ∷ xs) x
later_item xs y x h = (suc h.0, omega (arith, h.1), h.2)

pub by_place : {X : Type 0} (xs : List X) (y x : X) (k : ℕ) → k < length (y ∷ xs) → get_or (y ∷ xs) k x ≡ x → (y ≡ x) ⊎ Contains xs x
by_place xs y x zero lt e = inl e
by_place xs y x (suc k) lt e = inr (k, omega (arith, lt), e)

pub item_cases : {X : Type 0} (xs : List X) (y x : X) → Contains (y ∷ xs) x → (y ≡ x) ⊎ Contains xs x
item_cases xs y x h = by_place xs y x h.0 h.1 h.2

pub no_item : {X : Type 0} (x : X) → Contains [] x → ⊥
no_item x h = omega (arith, h.1)

pub sole_item : {X : Type 0} (y x : X) → Contains (y ∷ []) x → y ≡ x
sole_item y x h = elim (item_cases [] y x h) [ inl e ↦ e | inr n ↦ absurd (no_item x n) ]

pub mapped_item : {X Y : Type 0} (f : X → Y) (xs : List X) (x : X) → Contains xs x → Contains (map f xs) (f x)
mapped_item f [] x h = absurd (no_item x h)
mapped_item f (y ∷ xs) x h =
    elim (item_cases xs y x h) [
      | inl e ↦ subst (λ z. Contains (f y ∷ map f xs) (f z)) e (first_item (map f xs) (f y))
      | inr there ↦ later_item (map f xs) (f y) (f x) (mapped_item f xs x there)
    ]

pub unmapped_item : {X Y : Type 0} (f : X → Y) (xs : List X) (y : Y) → Contains (map f xs) y → (x : X) × Contains xs x × (f x ≡ y)
unmapped_item f [] y h = absurd (no_item y h)
unmapped_item f (x ∷ xs) y h =
    elim (item_cases (map f xs) (f x) y h) [
      | inl e ↦ (x, first_item xs x, e)
      | inr there ↦ let r = unmapped_item f xs y there in (r.0, later_item xs x r.0 r.1, r.2)
    ]

pub flat_item : {X Y : Type 0} (f : X → List Y) (xs : List X) (x : X) (y : Y) → Contains xs x → Contains (f x) y → Contains (flat_map f xs) y
flat_item f [] x y h i = absurd (no_item x h)
flat_item f (z ∷ xs) x y h i =
    elim (item_cases xs z x h) [
      | inl e ↦ Contains-append_left (f z) (flat_map f xs) y (subst (λ u. Contains (f u) y) (sym e) i)
      | inr there ↦ Contains-append_right (f z) (flat_map f xs) y (flat_item f xs x y there i)
    ]

-- items that all pass one test pass each test that follows from it
pub all_implied : {X : Type 0} (p q : X → Bool) → ((x : X) → p x ≡ true → q x ≡ true) → (xs : List X) → list_all p xs ≡ true → list_all q xs ≡ true
all_implied p q f [] e = refl
all_implied p q f (x ∷ xs) e = let parts = and_parts (p x) (list_all p xs) e in and_from (q x) (list_all q xs) (f x parts.0) (all_implied p q f xs parts.1)
