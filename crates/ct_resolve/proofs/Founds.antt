-- Items that are found one after another.
use Rattle.std.{proofs.lemmas.List.{drop_more, map_push}, specs.Prelude.{Result, Ok, Err, IfErr, IsErrAnd}}
use Rattle.std.proofs.Common.{◌≡◌, ◌≢◌, ◌+◌, ◌<◌, ℕ, length, map, drop, slice_index_or, List, [], ◌∷◌, ◌++◌, refl, ap, sym, ◌∙◌, subst}
use Rattle.ct_resolve.{specs.declared.error.ResolveError.ResolveError, specs.Found.{Found, and_then, in_front, each}}
use Rattle.ct_resolve.specs.declared.error.ResolveError.TheVariants as fault

-- these are found already
abbrev pub behind : {A : Type 0} → List A → Found (List A) → Found (List A)
behind xs r = and_then r (λ ys. Ok (xs ++ ys))

moved : {A : Type 0} (xs : List A) (y : A) (r : Found (List A)) → behind xs (in_front (Ok y) r) ≡ behind (xs ++ y ∷ []) r
moved xs y (Ok ys) = ap Ok (snoc xs y ys) where
  snoc : {A : Type 0} (xs : List A) (y : A) (ys : List A) → xs ++ y ∷ ys ≡ (xs ++ y ∷ []) ++ ys
  snoc [] y ys = refl
  snoc (x ∷ xs) y ys = ap (λ zs. x ∷ zs) (snoc xs y ys)
moved xs y (Err e) = refl

-- one more is found
pub one_more : {A B : Type 0} (f : A → Found B) (ys : List B) (x : A) (y : B) (xs : List A) → f x ≡ Ok y → behind (ys ++ y ∷ []) (each f xs) ≡ behind ys (each f (x ∷ xs))
one_more f ys x y xs e = sym (ap (λ r. behind ys (in_front r (each f xs))) e ∙ moved ys y (each f xs))

-- one is refused
pub refused : {A B : Type 0} (f : A → Found B) (ys : List B) (x : A) (xs : List A) (e : ResolveError) → f x ≡ Err e → behind ys (each f (x ∷ xs)) ≡ Err e
refused f ys x xs e r = ap (λ a. behind ys (in_front a (each f xs))) r

-- all are found
pub at_end : {A : Type 0} (xs : List A) → behind xs (Ok []) ≡ Ok xs
at_end xs = ap Ok (nothing xs) where
  nothing : {A : Type 0} (xs : List A) → xs ++ [] ≡ xs
  nothing [] = refl
  nothing (x ∷ xs) = ap (λ ys. x ∷ ys) (nothing xs)

-- the error that a `?` passes on
pub passed : {X A : Type 0} {found : Found A} {x : ResolveError} (r : Result X ResolveError) → IsErrAnd r (λ e. e ≡ x) → (x ≢ fault.Memory → found ≡ Err x)
    → IfErr r (λ e. e ≢ fault.Memory → found ≡ Err e)
passed (Ok y) is h = absurd is
passed {found = found} (Err e) is h = subst (λ x. x ≢ fault.Memory → found ≡ Err x) (sym is) h

-- the item that a loop reads stands in front of what is left
pub read_next : {A : Type 0} (xs : List A) (i : ℕ) (x : A) → i < length xs → x ≡ slice_index_or xs i x → drop i xs ≡ x ∷ drop (i + 1) xs
read_next xs i x l e = drop_more xs i x l ∙ ap (λ y. y ∷ drop (i + 1) xs) (sym e)

-- one more is found for the item that a loop reads
pub next_found : {A B : Type 0} (f : A → Found B) (all : List A) (i : ℕ) (ys : List B) {x : A} {y : B} {new : List B} {r : Found (List B)} → i < length all → x ≡ slice_index_or all i x
    → f x ≡ Ok y → new ≡ ys ++ y ∷ [] → behind ys (each f (drop i all)) ≡ r → behind new (each f (drop (i + 1) all)) ≡ r
next_found f all i ys {x} {y} l is found put before =
    ap (λ zs. behind zs (each f (drop (i + 1) all))) put ∙ one_more f ys x y (drop (i + 1) all) found
    ∙ ap (λ xs. behind ys (each f xs)) (sym (read_next all i x l is)) ∙ before

-- the same where the plain form of what is kept is found
pub next_found_as : {A B C : Type 0} (f : A → Found B) (g : C → B) (all : List A) (i : ℕ) (ys : List C) {x : A} {y : C} {new : List C} {r : Found (List B)} → i < length all → x ≡ slice_index_or all i x
    → f x ≡ Ok (g y) → new ≡ ys ++ y ∷ [] → behind (map g ys) (each f (drop i all)) ≡ r → behind (map g new) (each f (drop (i + 1) all)) ≡ r
next_found_as f g all i ys {y = y} l is found put before = next_found f all i (map g ys) l is found (ap (map g) put ∙ map_push g ys y) before
