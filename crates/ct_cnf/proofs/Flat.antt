-- Lists that are joined, and where their items stand.
use Rattle.std.proofs.Common.{◌≡◌, ℕ, zero, suc, ◌+◌, ◌-◌, ◌<◌, ◌≤◌, List, [], ◌∷◌, ◌++◌, length, get_or, take, ap, ◌∙◌, sym, subst, arith, inl, inr, length-append}
use Rattle.std.{specs.Prelude.Contains, specs.List.flat_map, proofs.lemmas.Bool.cases_lt}
use Rattle.std.proofs.lemmas.List.{get_or_append_left, get_or-append-add}
use Rattle.std.proofs.lemmas.List.Elements.{Contains-get_or, Contains-append_cases}
use Rattle.ct_word.proofs.Items.{no_item, first_item, later_item}
use Rattle.ct_cnf.{specs.Encoding.AreDistinct, specs.Lists.AreRising}

pub unflat_item : {X Y : Type 0} (f : X → List Y) (xs : List X) (y : Y) → Contains (flat_map f xs) y → (x : X) × Contains xs x × Contains (f x) y
unflat_item f [] y h = absurd (no_item y h)
unflat_item f (x ∷ xs) y h =
    elim (Contains-append_cases (f x) (flat_map f xs) y h) [
      | inl here ↦ (x, first_item xs x, here)
      | inr there ↦ let r = unflat_item f xs y there in (r.0, later_item xs x r.0 r.1, r.2)
    ]

-- where the items of one of the lists begin
abbrev pub before : {Y : Type 0} → (ℕ → List Y) → List ℕ → ℕ → ℕ
before f xs k = length (flat_map f (take k xs))

-- an item of a list stands after those of the lists before it
pub flat_at : {Y : Type 0} (f : ℕ → List Y) (xs : List ℕ) (k j : ℕ) (d : Y) → k < length xs → j < length (f (get_or xs k 0))
    → (before f xs k + j < length (flat_map f xs)) × (get_or (flat_map f xs) (before f xs k + j) d ≡ get_or (f (get_or xs k 0)) j d)
flat_at f [] k j d lt within = absurd (omega (arith, lt))
flat_at f (x ∷ xs) zero j d lt within =
    let at : 0 + j ≡ j = omega arith in (
      omega (arith, within, length-append (f x) (flat_map f xs)),
      ap (λ i. get_or (f x ++ flat_map f xs) i d) at ∙ get_or_append_left (f x) (flat_map f xs) d j within,
    )
flat_at f (x ∷ xs) (suc k) j d lt within =
    let r = flat_at f xs k j d (omega (arith, lt)) within in
    let at : length (f x ++ flat_map f (take k xs)) + j ≡ length (f x) + (before f xs k + j) = omega (arith, length-append (f x) (flat_map f (take k xs))) in (
      omega (arith, at, r.0, length-append (f x) (flat_map f xs)),
      ap (λ i. get_or (f x ++ flat_map f xs) i d) at ∙ get_or-append-add (f x) (flat_map f xs) (before f xs k + j) d ∙ r.1,
    )

-- no item stands twice in two lists that have none in common
distinct_append : {X : Type 0} (xs ys : List X) → AreDistinct xs → AreDistinct ys → ((x : X) → Contains xs x → Contains ys x → ⊥) → AreDistinct (xs ++ ys)
distinct_append {X} xs ys dx dy apart i j d li lj e =
    elim (cases_lt i (length xs)) [
      | inl front_i ↦ elim (cases_lt j (length xs)) [
        | inl front_j ↦ dx i j d front_i front_j (sym (left i front_i) ∙ e ∙ left j front_j)
        | inr back_j ↦ absurd (mixed i j front_i back_j lj e)
      ]
      | inr back_i ↦ elim (cases_lt j (length xs)) [
        | inl front_j ↦ absurd (mixed j i front_j back_i li (sym e))
        | inr back_j ↦
            let same : i - length xs ≡ j - length xs = dy (i - length xs) (j - length xs) d (rest i li back_i) (rest j lj back_j) (sym (right i back_i) ∙ e ∙ right j back_j) in
            omega (arith, same, back_i, back_j)
      ]
    ]
  where
    left : (k : ℕ) → k < length xs → get_or (xs ++ ys) k d ≡ get_or xs k d
    left k lt = get_or_append_left xs ys d k lt

    rest : (k : ℕ) → k < length (xs ++ ys) → length xs ≤ k → k - length xs < length ys
    rest k lt back = omega (arith, lt, back, length-append xs ys)

    right : (k : ℕ) → length xs ≤ k → get_or (xs ++ ys) k d ≡ get_or ys (k - length xs) d
    right k back =
        let at : k ≡ length xs + (k - length xs) = omega (arith, back) in
        ap (λ n. get_or (xs ++ ys) n d) at ∙ get_or-append-add xs ys (k - length xs) d

    mixed : (k l : ℕ) → k < length xs → length xs ≤ l → l < length (xs ++ ys) → get_or (xs ++ ys) k d ≡ get_or (xs ++ ys) l d → ⊥
    mixed k l front back lt same =
        apart (get_or xs k d) (Contains-get_or xs k d front)
        (subst (Contains ys) (sym (right l back) ∙ sym same ∙ left k front) (Contains-get_or ys (l - length xs) d (rest l lt back)))

rest_rises : (x : ℕ) (xs : List ℕ) → AreRising (x ∷ xs) → AreRising xs
rest_rises x xs up i j d lt within = up (suc i) (suc j) d (omega (arith, lt)) (omega (arith, within))

-- the first of places that go up is smaller than the others
pub first_smaller : (x : ℕ) (xs : List ℕ) → AreRising (x ∷ xs) → (y : ℕ) → Contains xs y → x < y
first_smaller x xs up y h = omega (arith, up 0 (suc h.0) y (omega arith) (omega (arith, h.1)), h.2)

-- joined lists of distinct items are distinct where each item tells its list
pub distinct_flat : {Y : Type 0} (f : ℕ → List Y) (xs : List ℕ) → AreRising xs → ((x : ℕ) → Contains xs x → AreDistinct (f x))
    → ((x y : ℕ) (a : Y) → Contains xs x → Contains xs y → Contains (f x) a → Contains (f y) a → x ≡ y) → AreDistinct (flat_map f xs)
distinct_flat f [] up each one = λ i j d li lj e. absurd (omega (arith, li))
distinct_flat f (x ∷ xs) up each one =
    distinct_append (f x) (flat_map f xs) (each x (first_item xs x))
    (distinct_flat f xs (rest_rises x xs up) (λ y h. each y (later_item xs x y h)) (λ y z a h i. one y z a (later_item xs x y h) (later_item xs x z i)))
    (λ a here there.
    let u = unflat_item f xs a there in
    omega (arith, first_smaller x xs up u.0 u.1, one x u.0 a (first_item xs x) (later_item xs x u.0 u.1) here u.2))

-- where places go up, each is at least its index
pub at_least : (xs : List ℕ) → AreRising xs → (k : ℕ) → k < length xs → k ≤ get_or xs k 0
at_least xs up zero lt = omega arith
at_least xs up (suc k) lt = omega (arith, at_least xs up k (omega (arith, lt)), up k (suc k) 0 (omega arith) lt)

-- so there are no more of them than there are places
pub few_rising : (xs : List ℕ) (bound : ℕ) → AreRising xs → ((x : ℕ) → Contains xs x → x < bound) → length xs ≤ bound
few_rising xs bound up within =
    elim (cases_lt bound (length xs)) [
      | inl more ↦ absurd (omega (arith, at_least xs up bound more, within (get_or xs bound 0) (Contains-get_or xs bound 0 more)))
      | inr most ↦ most
    ]
