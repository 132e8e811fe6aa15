-- Lines written one after another, and the first record that is no row.
use Rattle.std.proofs.Common.{◌≡◌, ℕ, zero, suc, ◌+◌, ◌-◌, ◌<◌, ◌≤◌, List, [], ◌∷◌, ◌++◌, length, map, take, drop, get_or, refl, sym, ap, subst, ◌∙◌, arith, inl, inr, append_assoc, append-nil}
use Rattle.std.{specs.Prelude.flat_map, proofs.lemmas.List.take_more, proofs.lemmas.Grind.flat_map-append, proofs.lemmas.Bool.cases_lt}
use Rattle.ct_csv.specs.declared.error.ImportError.{ImportError}
use Rattle.ct_csv.specs.declared.error.ImportError.TheVariants as fault
use Rattle.ct_csv.specs.Refusing.{AreRight, first_bad, WhyNoRow, WhyNoRows}

pub get_mapped : {A B : Type 0} (f : A → B) (xs : List A) (i : ℕ) (d : A) (e : B) → i < length xs → get_or (map f xs) i e ≡ f (get_or xs i d)
get_mapped f [] i d e less = absurd (omega arith)
get_mapped f (x ∷ xs) zero d e less = refl
get_mapped f (x ∷ xs) (suc i) d e less = get_mapped f xs i d e (omega arith)

pub one_line : {A : Type 0} (f : A → List ℕ) (xs : List A) (i : ℕ) (d : A) (start before after : List ℕ) → 1 ≤ i → i < length xs
    → before ≡ start ++ flat_map f (take (i - 1) (drop 1 xs)) → after ≡ before ++ f (get_or xs i d) → after ≡ start ++ flat_map f (take ((i + 1) - 1) (drop 1 xs))
one_line f [] i d start before after from less p q = absurd (omega arith)
one_line f (x ∷ xs) zero d start before after from less p q = absurd (omega arith)
one_line f (x ∷ xs) (suc i) d start before after from less p q =
    let here : suc i - 1 ≡ i = omega arith in
    let next : (suc i + 1) - 1 ≡ i + 1 = omega arith in
    let more : flat_map f (take (i + 1) xs) ≡ flat_map f (take i xs) ++ f (get_or xs i d) =
    ap (flat_map f) (take_more xs i d (omega arith)) ∙ flat_map-append f (take i xs) (get_or xs i d ∷ []) ∙ ap (λ y. flat_map f (take i xs) ++ y) (append-nil (f (get_or xs i d))) in
    let before' : before ≡ start ++ flat_map f (take i xs) = p ∙ ap (λ n. start ++ flat_map f (take n xs)) here in
    q ∙ ap (λ b. b ++ f (get_or xs i d)) before' ∙ append_assoc start (flat_map f (take i xs)) (f (get_or xs i d)) ∙ ap (λ y. start ++ y) (sym more)
    ∙ ap (λ n. start ++ flat_map f (take n xs)) (sym next)

take_whole : {A : Type 0} (xs : List A) (n : ℕ) → length xs ≤ n → take n xs ≡ xs
take_whole [] zero h = refl
take_whole [] (suc n) h = refl
take_whole (x ∷ xs) zero h = absurd (omega arith)
take_whole (x ∷ xs) (suc n) h = ap (λ ys. x ∷ ys) (take_whole xs n (omega arith))

pub all_lines : {A : Type 0} (f : A → List ℕ) (xs : List A) (i : ℕ) (start after : List ℕ) → 1 ≤ i → length xs ≤ i
    → after ≡ start ++ flat_map f (take (i - 1) (drop 1 xs)) → after ≡ start ++ flat_map f (drop 1 xs)
all_lines f [] i start after from past p = p ∙ ap (λ ys. start ++ flat_map f ys) (take_whole [] (i - 1) (omega arith))
all_lines f (x ∷ xs) i start after from past p = p ∙ ap (λ ys. start ++ flat_map f ys) (take_whole xs (i - 1) (omega arith))

-- one record more that is a row
pub one_right : (rs : List (List (List ℕ))) (i : ℕ) → ((j : ℕ) → 1 ≤ j → j < i → AreRight (get_or rs j [])) → AreRight (get_or rs i [])
    → (j : ℕ) → 1 ≤ j → j < i + 1 → AreRight (get_or rs j [])
one_right rs i before here j from less =
    elim (cases_lt j i) [
      | inl earlier ↦ before j from earlier
      | inr last ↦ subst (λ n. AreRight (get_or rs n [])) {x = i} {y = j} (omega arith) here
    ]

pub no_rows : (rs : List (List (List ℕ))) (i : ℕ) (e : ImportError) → 1 ≤ i → i < length rs → ((j : ℕ) → 1 ≤ j → j < i → AreRight (get_or rs j []))
    → WhyNoRow (i + 1) (get_or rs i []) e → WhyNoRows rs e
no_rows rs i fault.NotCsv from less before h = h
no_rows rs i fault.BadHeader from less before h = h
no_rows rs i fault.Memory from less before h = tt
no_rows rs i (fault.BadCell n f) from less before h = rw (h.0, h.2) (first_bad i h.1 from less before h.3)
