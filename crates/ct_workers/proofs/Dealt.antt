-- Items dealt to rows, and taken back.
use Rattle.std.proofs.Common.{◌≡◌, ◌≢◌, ◌<◌, ◌≤◌, ◌+◌, ◌*◌, ◌/◌, ◌%◌, ℕ, zero, suc, Bool, true, false, ltb, ltb-true, ltb-false, List, [], ◌∷◌, ◌++◌, length, get_or, set, None, Some, arith, refl, ap, ap₂, sym, subst, ◌∙◌, div-add-mod'}
use Rattle.std.{specs.Prelude.{Option, IsSome}, proofs.lemmas.Bool.false≢true, proofs.lemmas.List.{get_or_default, get_or_push, get_or_append_left}}
use Rattle.ct_workers.specs.Dealing.{AreDealt, item_at}

module _ {V A : Type 0} (items : V → List (Option A)) where
  -- an item of a row that is there
  pub at_row : (rows : List V) (k p : ℕ) (d : V) → k < length rows → item_at items rows k p ≡ get_or (items (get_or rows k d)) p None
  at_row [] k p d lt = absurd (omega (arith, lt))
  at_row (r ∷ rows) zero p d lt = refl
  at_row (r ∷ rows) (suc k) p d lt = at_row rows k p d (omega (arith, lt))

  -- where there is an item there is its row
  pub row_there : (rows : List V) (k p : ℕ) → IsSome (item_at items rows k p) → k < length rows
  row_there [] k p h = absurd (false≢true h)
  row_there (r ∷ rows) zero p h = omega arith
  row_there (r ∷ rows) (suc k) p h = let lt = row_there rows k p h in omega (arith, lt)

  -- where a row changes at one place alone, no other place of the rows does
  pub only_there : (rows : List V) (k p : ℕ) (old new : V) → get_or rows k old ≡ old → ((q : ℕ) → q ≢ p → get_or (items new) q None ≡ get_or (items old) q None)
      → (r q : ℕ) → (r ≡ k → q ≢ p) → item_at items (set rows k new) r q ≡ item_at items rows r q
  only_there [] k p old new was same r q other = refl
  only_there (x ∷ rows) zero p old new was same zero q other = same q (other refl) ∙ sym (ap (λ v. get_or (items v) q None) was)
  only_there (x ∷ rows) zero p old new was same (suc r) q other = refl
  only_there (x ∷ rows) (suc k) p old new was same zero q other = refl
  only_there (x ∷ rows) (suc k) p old new was same (suc r) q other = only_there rows k p old new was same r q (λ e. other (ap suc e))

-- a place that has an item is one of the list
pub place_there : {A : Type 0} (xs : List (Option A)) (p : ℕ) → IsSome (get_or xs p None) → p < length xs
place_there [] p h = absurd (false≢true h)
place_there (x ∷ xs) zero h = omega arith
place_there (x ∷ xs) (suc p) h = let lt = place_there xs p h in omega (arith, lt)

module _ {V A : Type 0} (items : V → List (Option A)) (rows : List V) (k p : ℕ) (row : V) (there : IsSome (item_at items rows k p)) (is : row ≡ get_or rows k row) where
  here : item_at items rows k p ≡ get_or (items row) p None
  here = at_row items rows k p row (row_there items rows k p there) ∙ sym (ap (λ v. get_or (items v) p None) is)

  -- the place of an item is one of its row
  pub place_in : p < length (items row)
  place_in = place_there (items row) p (subst IsSome here there)

-- and the item is what is read there
pub item_is : {V A : Type 0} (items : V → List (Option A)) (rows : List V) (k p : ℕ) (row : V) (x : Option A) → IsSome (item_at items rows k p) → row ≡ get_or rows k row → x ≡ get_or (items row) p x
    → item_at items rows k p ≡ x
item_is items rows k p row x there is read = here items rows k p row there is ∙ get_or_default (items row) p None x (place_in items rows k p row there is) ∙ sym read

-- two items are not dealt to the same place
pub apart : (w i q : ℕ) → i < q → q % w ≡ i % w → q / w ≢ i / w
apart w i q lt e f = omega (arith, lt, div-add-mod' q w, div-add-mod' i w, ap₂ (λ a b. a * w + b) f e)

module _ {V A : Type 0} (items : V → List (Option A)) (dealt : List V) (w : ℕ) where
  -- the next item is there as long as its place did not change
  pub still_there : (m count : ℕ) → w ≡ m → AreDealt items dealt m count → (rows : List V) (q : ℕ) → q < count → item_at items rows (q % w) (q / w) ≡ item_at items dealt (q % w) (q / w)
      → IsSome (item_at items rows (q % w) (q / w))
  still_there m count same are rows q lt left = subst IsSome (sym left) (subst (λ n. IsSome (item_at items dealt (q % n) (q / n))) (sym same) (are q lt))

  -- one more item in the list
  pub each_more : (rows : List V) (number : ℕ) (all : List A) (x : A) → length all ≡ number → ((q : ℕ) (d : A) → q < number → item_at items dealt (q % w) (q / w) ≡ Some (get_or all q d))
      → item_at items rows (number % w) (number / w) ≡ item_at items dealt (number % w) (number / w) → item_at items rows (number % w) (number / w) ≡ Some x
      → (q : ℕ) (d : A) → q < number + 1 → item_at items dealt (q % w) (q / w) ≡ Some (get_or (all ++ x ∷ []) q d)
  each_more rows number all x count each left is q d lt = by (ltb q number) refl where
    by : (b : Bool) → ltb q number ≡ b → item_at items dealt (q % w) (q / w) ≡ Some (get_or (all ++ x ∷ []) q d)
    by true e = let before = ltb-true q number e in each q d before ∙ ap Some (sym (get_or_append_left all (x ∷ []) d q (omega (arith, before, count))))
    by false e =
        let last : number ≡ q = omega (arith, ltb-false q number e, lt) in
        subst (λ n. item_at items dealt (n % w) (n / w) ≡ Some (get_or (all ++ x ∷ []) n d)) last (sym left ∙ is ∙ ap Some (sym (get_or_push all x d number count)))

  -- no later item changed
  pub left_more : (rows after : List V) (number : ℕ) → ((q : ℕ) → number ≤ q → item_at items rows (q % w) (q / w) ≡ item_at items dealt (q % w) (q / w))
      → ((r p : ℕ) → (r ≡ number % w → p ≢ number / w) → item_at items after r p ≡ item_at items rows r p)
      → (q : ℕ) → number + 1 ≤ q → item_at items after (q % w) (q / w) ≡ item_at items dealt (q % w) (q / w)
  left_more rows after number left others q le = others (q % w) (q / w) (apart w number q (omega (arith, le))) ∙ left q (omega (arith, le))
