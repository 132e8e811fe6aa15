-- Records whose fields are right say rows, and others do not.
use Rattle.std.proofs.Common.{◌≡◌, ℕ, zero, suc, ◌+◌, ◌-◌, ◌<◌, ◌≤◌, Bool, true, false, List, [], ◌∷◌, ◌++◌, length, map, take, drop, get_or, refl, sym, ap, subst, ◌∙◌, arith, inl, inr, length-take}
use Rattle.std.{specs.Prelude.{Option, Some, None, IsSome, if◌then◌else◌, codes}, proofs.lemmas.Bool.cases_lt, proofs.lemmas.List.get_or-take}
use Rattle.ct_word.{specs.declared.values.Term.Term, specs.Change.PlainRow, specs.Value.same_text}
use Rattle.ct_csv.specs.Csv.{HaveFields, AreEven}
use Rattle.ct_csv.specs.Fields.{cell_fields, condition_field, field_name, before_names, names_of, some_of, columns_of, header, cell_of}
use Rattle.ct_csv.specs.File.{SaysRow, SayRows}
use Rattle.ct_csv.specs.Refusing.{IsCondition, AreRight, IsFirstWrong, IsFirstBad, first_bad, HaveSome, AreRows}

-- the terms of fields that are all cells
some_of_cell : (o : Option Term) → IsSome o → (t : Term) × (o ≡ Some t)
some_of_cell None h = cc h
some_of_cell (Some t) h = (t, refl)

cells_there : (xs : List (List ℕ)) → ((i : ℕ) → i < length xs → IsSome (cell_of (get_or xs i []))) → (ts : List Term) × (map cell_of xs ≡ map Some ts)
cells_there [] h = ([], refl)
cells_there (x ∷ xs) h =
    let first = some_of_cell (cell_of x) (h 0 (omega arith)) in
    let rest = cells_there xs (λ i less. h (suc i) (omega arith)) in
    (first.0 ∷ rest.0, ap (λ o. o ∷ map cell_of xs) first.1 ∙ ap (λ os. Some first.0 ∷ os) rest.1)

pub row_there : (fields : List (List ℕ)) → 0 < length fields → AreRight fields → (row : PlainRow) × SaysRow fields row
row_there fields some right =
    let n = length fields - 1 in
    let size : length (take n fields) ≡ n = omega (arith, length-take n fields) in
    let cells = cells_there (take n fields) (λ i less. subst (λ x. IsSome (cell_of x)) (sym (get_or-take n fields i [] (omega (arith, size, less)))) ((right i (omega (arith, size, less))).0 (omega (arith, size, less)))) in
    let last = (right n (omega arith)).1 (omega arith) in
    (record { cells = cells.0; condition = last.1 }, record { cells = cells.1; tokens = last.0; condition = last.2 })

rows_there : (rs : List (List (List ℕ))) → ((i : ℕ) → i < length rs → (0 < length (get_or rs i [])) × AreRight (get_or rs i [])) → (rows : List PlainRow) × SayRows rs rows
rows_there [] h = ([], tt)
rows_there (r ∷ rs) h =
    let here = h 0 (omega arith) in
    let first = row_there r here.0 here.1 in
    let rest = rows_there rs (λ i less. h (suc i) (omega arith)) in
    (first.0 ∷ rest.0, (first.1, rest.1))

pub all_rows : (rs : List (List (List ℕ))) → HaveSome rs → AreRows rs → (rows : List PlainRow) × SayRows (drop 1 rs) rows
all_rows [] some right = ([], tt)
all_rows (r ∷ rs) some right = rows_there rs (λ i less. (some (suc i) (omega arith), right (suc i) (omega arith) (omega arith)))

-- and the fields of a row are right
is_cell : (xs : List (List ℕ)) (ts : List Term) → map cell_of xs ≡ map Some ts → (i : ℕ) → i < length xs → IsSome (cell_of (get_or xs i []))
is_cell [] ts h i less = absurd (omega arith)
is_cell (x ∷ xs) [] h i less = cc h
is_cell (x ∷ xs) (t ∷ ts) h zero less = let e : cell_of x ≡ Some t = cc in subst IsSome (sym e) refl
is_cell (x ∷ xs) (t ∷ ts) h (suc i) less = let e : map cell_of xs ≡ map Some ts = cc in is_cell xs ts e i (omega arith)

pub row_right : (fields : List (List ℕ)) (row : PlainRow) → SaysRow fields row → AreRight fields
row_right fields row says k below =
    let n = length fields - 1 in
    let size : length (take n fields) ≡ n = omega (arith, length-take n fields) in (
      λ inner. subst (λ x. IsSome (cell_of x)) (get_or-take n fields k [] (omega arith)) (is_cell (take n fields) row.cells says.cells k (omega (arith, size))),
      λ last.
          let at : n ≡ k = omega arith in
          subst (λ i. IsCondition (get_or fields i [])) at (says.tokens, row.condition, says.condition),
    )

rows_right : (rs : List (List (List ℕ))) (rows : List PlainRow) → SayRows rs rows → (i : ℕ) → i < length rs → AreRight (get_or rs i [])
rows_right [] rows h i less = absurd (omega arith)
rows_right (r ∷ rs) [] h i less = absurd h
rows_right (r ∷ rs) (row ∷ rows) h zero less = row_right r row h.0
rows_right (r ∷ rs) (row ∷ rows) h (suc i) less = rows_right rs rows h.1 i (omega arith)

pub file_right : (rs : List (List (List ℕ))) (rows : List PlainRow) → SayRows (drop 1 rs) rows → AreRows rs
file_right [] rows h i from less = absurd (omega arith)
file_right (r ∷ rs) rows h zero from less = absurd (omega arith)
file_right (r ∷ rs) rows h (suc i) from less = rows_right rs rows h i (omega arith)

-- no row is bad
pub none_bad : {rs : List (List (List ℕ))} {n k : ℕ} → AreRows rs → IsFirstBad rs n k → ⊥
none_bad right (first_bad i k from below before wrong) = wrong.2 (right i from below k wrong.0)

-- the first that is bad is one
same_wrong : (fields : List (List ℕ)) (k l : ℕ) → IsFirstWrong fields k → IsFirstWrong fields l → k ≡ l
same_wrong fields k l a b =
    elim (cases_lt k l) [
      | inl less ↦ absurd (a.2 (b.1 k less))
      | inr more ↦ elim (cases_lt l k) [
        | inl less ↦ absurd (b.2 (a.1 l less))
        | inr most ↦ omega arith
      ]
    ]

pub same_bad : {rs : List (List (List ℕ))} {n m k l : ℕ} → IsFirstBad rs n k → IsFirstBad rs m l → (n ≡ m) × (k ≡ l)
same_bad {rs} (first_bad i k a b before wrong) (first_bad j l c d before' wrong') =
    elim (cases_lt i j) [
      | inl less ↦ absurd (wrong.2 (before' i a less k wrong.0))
      | inr more ↦ elim (cases_lt j i) [
        | inl less ↦ absurd (wrong'.2 (before j c less l wrong'.0))
        | inr most ↦
            let same : i ≡ j = omega arith in
            (ap (λ x. x + 1) same, ap (λ x. x + 1) (same_wrong (get_or rs i []) k l wrong (subst (λ x. IsFirstWrong (get_or rs x []) l) (sym same) wrong')))
      ]
    ]

-- a first record that names columns has two fields or more, and so has each other one
no_names : (b : Bool) (o p : Option (List (List ℕ))) → o ≡ None → p ≡ None → (cs : List (List ℕ)) → (if b then o else p) ≡ Some cs → ⊥
no_names true o p e f cs h = cc (sym e ∙ h)
no_names false o p e f cs h = cc (sym f ∙ h)

pub few_fields : (fields : List (List ℕ)) → length fields < 2 → some_of (names_of (cell_fields fields)) ≡ None
few_fields [] h = refl
few_fields (f ∷ []) h = refl
few_fields (f ∷ g ∷ fs) h = absurd (omega arith)

pub two_fields : (fields cs : List (List ℕ)) → columns_of fields ≡ Some cs → 2 ≤ length fields
two_fields fields cs h =
    elim (cases_lt (length fields) 2) [
      | inl less ↦ absurd (no_names (same_text (condition_field fields) (codes "if")) _ None (few_fields fields less) refl cs h)
      | inr more ↦ more
    ]

have_length : (n : ℕ) (rs : List (List (List ℕ))) (i : ℕ) → HaveFields n rs → i < length rs → length (get_or rs i []) ≡ n
have_length n [] i h less = absurd (omega arith)
have_length n (r ∷ rs) zero h less = h.0
have_length n (r ∷ rs) (suc i) h less = have_length n rs i h.1 (omega arith)

pub have_some : (rs : List (List (List ℕ))) (cs : List (List ℕ)) → AreEven rs → header rs ≡ Some cs → HaveSome rs
have_some [] cs even named i less = absurd (omega arith)
have_some (r ∷ rs) cs even named zero less = omega (arith, two_fields r cs named)
have_some (r ∷ rs) cs even named (suc i) less = omega (arith, two_fields r cs named, have_length (length r) rs i even (omega arith))

-- names one after the other
one_more : (y : List ℕ) (ys : List (List ℕ)) (x n : List ℕ) (ns : List (List ℕ)) (m : Option (List ℕ)) (o : Option (List (List ℕ)))
    → field_name y ≡ m → names_of ys ≡ o → before_names m o ≡ Some ns → ((bs : List (List ℕ)) → names_of ys ≡ Some bs → names_of (ys ++ x ∷ []) ≡ Some (bs ++ n ∷ []))
    → before_names (field_name y) (names_of (ys ++ x ∷ [])) ≡ Some (ns ++ n ∷ [])
one_more y ys x n ns None o p q r rest = cc r
one_more y ys x n ns (Some a) None p q r rest = cc r
one_more y ys x n ns (Some a) (Some bs) p q r rest =
    let is : ns ≡ a ∷ bs = cc in
    rw (p, rest bs q, is) refl

pub names_more : (xs : List (List ℕ)) (x n : List ℕ) (ns : List (List ℕ)) → names_of xs ≡ Some ns → field_name x ≡ Some n → names_of (xs ++ x ∷ []) ≡ Some (ns ++ n ∷ [])
names_more [] x n ns h e = let none : ns ≡ [] = cc in rw (e, none) refl
names_more (y ∷ ys) x n ns h e = one_more y ys x n ns (field_name y) (names_of ys) refl refl h (λ bs q. names_more ys x n bs q e)

behind_none : (m : Option (List ℕ)) → before_names m None ≡ None
behind_none None = refl
behind_none (Some a) = refl

pub names_none : (xs : List (List ℕ)) (k : ℕ) → k < length xs → field_name (get_or xs k []) ≡ None → names_of xs ≡ None
names_none [] k less e = absurd (omega arith)
names_none (x ∷ xs) zero less e = rw e refl
names_none (x ∷ xs) (suc k) less e = rw (names_none xs k (omega arith) e) (behind_none (field_name x))
