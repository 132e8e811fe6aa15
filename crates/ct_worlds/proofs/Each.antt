-- What holds of each item of a list, and of an answer.
use Rattle.std.proofs.Common.{◌≡◌, Bool, true, ◌&&◌, refl, List, [], ◌∷◌, Some, None, Result, Ok, Err, Option, subst, inl, inr}
use Rattle.std.{specs.Prelude.{Contains, IfOk, IfSome}, specs.List.{AllByRecursion, list_all}, proofs.lemmas.Bool.and_parts}
use Rattle.ct_word.{specs.Value.World, proofs.Items.{first_item, later_item, item_cases, no_item}}
use Rattle.ct_worlds.specs.Repaired.{Each}

-- by the items, or one after another
pub each_all : {X : Type 0} (P : X → Type 0) (xs : List X) → Each P xs → AllByRecursion P xs
each_all P [] h = tt
each_all P (x ∷ xs) h = (h x (first_item xs x), each_all P xs (λ y i. h y (later_item xs x y i)))

pub all_each : {X : Type 0} (P : X → Type 0) (xs : List X) (x : X) → AllByRecursion P xs → Contains xs x → P x
all_each P [] x all h = absurd (no_item x h)
all_each P (y ∷ ys) x all h = elim (item_cases ys y x h) [ inl e ↦ subst P e all.0 | inr later ↦ all_each P ys x all.1 later ]

-- each of items that pass a test passes it
pub each_passes : {X : Type 0} (test : X → Bool) (ps : List X) → list_all test ps ≡ true → (p : X) → Contains ps p → test p ≡ true
each_passes test [] e p h = absurd (no_item p h)
each_passes test (q ∷ ps) e p h =
    let parts = and_parts (test q) (list_all test ps) e in
    elim (item_cases ps q p h) [ inl same ↦ subst (λ x. test x ≡ true) same parts.0 | inr later ↦ each_passes test ps parts.1 p later ]

-- all pass two tests alike that agree on each
pub all_alike : {X : Type 0} (f g : X → Bool) (xs : List X) → Each (λ x. f x ≡ g x) xs → list_all f xs ≡ list_all g xs
all_alike f g [] h = refl
all_alike f g (x ∷ xs) h = λ i. h x (first_item xs x) i && all_alike f g xs (λ y later. h y (later_item xs x y later)) i

-- a clause about each answer
pub for_some : {E : Type 0} (P Q : World → Type 0) (r : Result (Option World) E) → ((w : World) → P w → Q w) → IfOk r (λ o. IfSome o P) → IfOk r (λ o. IfSome o Q)
for_some P Q (Ok (Some w)) f h = f w h
for_some P Q (Ok None) f h = tt
for_some P Q (Err e) f h = tt
