-- The marked items of a list, and their numbers.
use Rattle.std.proofs.Common.{◌≡◌, ℕ, zero, suc, ◌+◌, ◌<◌, ◌≤◌, Bool, true, false, List, [], ◌∷◌, ◌++◌, length, drop, get_or, Some, refl, ap, ◌∙◌, sym, subst, arith, inl, inr, append_assoc, if◌then◌else◌}
use Rattle.std.{specs.Prelude.{slice_get, slice_index_or, Contains}, specs.List.list_all, proofs.lemmas.Bool.false≢true, proofs.lemmas.Option.none-some}
use Rattle.std.{proofs.lemmas.List.drop_more, proofs.lemmas.List.Elements.All-contains, proofs.lemmas.List.Sums.AllPass-from_list_all}
use Rattle.ct_cut.specs.Marks.{is_marked}
use Rattle.ct_word.proofs.Items.{first_item, later_item, item_cases, no_item}
use Rattle.ct_cut.specs.Cut.{kept, rank, ranks}

pub all_item : {X : Type 0} (test : X → Bool) (xs : List X) (x : X) → list_all test xs ≡ true → Contains xs x → test x ≡ true
all_item test xs x e h = All-contains (λ y. test y ≡ true) xs x (AllPass-from_list_all test xs e) h

module _ {X : Type 0} where
  -- one turn of a loop over the marks and over a list
  pub kept_turn : (ms : List Bool) (k : ℕ) (m : Bool) (old new : List X) (x : X) (xs rest : List X) → k < length ms → get_or ms k false ≡ m
      → xs ≡ x ∷ rest → new ≡ (if m then old ++ x ∷ [] else old) → new ++ kept (drop (k + 1) ms) rest ≡ old ++ kept (drop k ms) xs
  kept_turn ms k m old new x xs rest lt e left is =
      ap (λ ys. ys ++ kept (drop (k + 1) ms) rest) is ∙ by_mark m ∙ ap (λ b. old ++ kept (b ∷ drop (k + 1) ms) (x ∷ rest)) (sym e)
      ∙ ap (λ bs. old ++ kept bs (x ∷ rest)) (sym (drop_more ms k false lt)) ∙ ap (λ ys. old ++ kept (drop k ms) ys) (sym left) where
        by_mark : (b : Bool) → (if b then old ++ x ∷ [] else old) ++ kept (drop (k + 1) ms) rest ≡ old ++ kept (b ∷ drop (k + 1) ms) (x ∷ rest)
        by_mark true = append_assoc old (x ∷ []) (kept (drop (k + 1) ms) rest)
        by_mark false = refl

  -- a marked item stands by its number
  pub kept_at : (ms : List Bool) (xs : List X) (k : ℕ) (x : X) → slice_get xs k ≡ Some x → is_marked ms k ≡ true → slice_get (kept ms xs) (rank ms k) ≡ Some x
  kept_at [] xs k x at m = absurd (false≢true m)
  kept_at (b ∷ ms) [] k x at m = absurd (none-some x at)
  kept_at (b ∷ ms) (y ∷ xs) zero x at m = rw m at
  kept_at (b ∷ ms) (y ∷ xs) (suc k) x at m = grind (arith, kept_at ms xs k x)

  pub kept_item : (ms : List Bool) (xs : List X) (x : X) → Contains (kept ms xs) x → Contains xs x
  kept_item ms [] x h = absurd (no_item x h)
  kept_item [] (y ∷ xs) x h = absurd (no_item x h)
  kept_item (false ∷ ms) (y ∷ xs) x h = later_item xs y x (kept_item ms xs x h)
  kept_item (true ∷ ms) (y ∷ xs) x h = elim (item_cases (kept ms xs) y x h) [
    | inl e ↦ subst (Contains (y ∷ xs)) e (first_item xs y)
    | inr there ↦ later_item xs y x (kept_item ms xs x there)
  ]

  pub kept_parts : (ms : List Bool) (xs ys : List X) → kept ms (xs ++ ys) ≡ kept ms xs ++ kept (drop (length xs) ms) ys
  kept_parts ms [] ys = refl
  kept_parts [] (x ∷ xs) [] = refl
  kept_parts [] (x ∷ xs) (y ∷ ys) = refl
  kept_parts (m ∷ ms) (x ∷ xs) ys = grind (arith, kept_parts ms xs ys)

  pub length_kept : (ms : List Bool) (xs : List X) → length ms ≡ length xs → length (kept ms xs) ≡ rank ms (length ms)
  length_kept [] [] e = refl
  length_kept [] (x ∷ xs) e = refl
  length_kept (m ∷ ms) [] e = absurd (omega (arith, e))
  length_kept (m ∷ ms) (x ∷ xs) e = grind (arith, length_kept ms xs)

-- the number of a place
pub number_at : (n : ℕ) (ms : List Bool) (k : ℕ) → k < length ms → slice_index_or (ranks n ms) k 0 ≡ n + rank ms k
number_at n [] k lt = absurd (omega (arith, lt))
number_at n (m ∷ ms) zero lt = omega arith
number_at n (m ∷ ms) (suc k) lt = grind (arith, number_at n ms k, number_at (suc n) ms k)

pub length_ranks : (n : ℕ) (ms : List Bool) → length (ranks n ms) ≡ length ms
length_ranks n [] = refl
length_ranks n (m ∷ ms) = ap suc (length_ranks (if m then suc n else n) ms)

-- a number depends on the marks before it
pub rank_front : (ms more : List Bool) (k : ℕ) → k ≤ length ms → rank (ms ++ more) k ≡ rank ms k
rank_front ms more zero le = refl
rank_front [] more (suc k) le = absurd (omega (arith, le))
rank_front (m ∷ ms) more (suc k) le = grind (arith, rank_front ms more k)

pub rank_rises : (ms : List Bool) (k p : ℕ) → k < p → is_marked ms k ≡ true → rank ms k < rank ms p
rank_rises [] k p lt m = absurd (false≢true m)
rank_rises (b ∷ ms) k zero lt m = absurd (omega (arith, lt))
rank_rises (b ∷ ms) zero (suc p) lt m = grind arith
rank_rises (b ∷ ms) (suc k) (suc p) lt m = grind (arith, rank_rises ms k p)

pub rank_next : (ms : List Bool) (k : ℕ) → rank ms (suc k) ≤ suc (rank ms k)
rank_next [] k = omega arith
rank_next (m ∷ ms) zero = grind arith
rank_next (m ∷ ms) (suc k) = grind (arith, rank_next ms k)

-- each number is that of a marked place
pub ranked : (ms : List Bool) (j : ℕ) → j < rank ms (length ms) → (k : ℕ) × (is_marked ms k ≡ true) × (rank ms k ≡ j)
ranked [] j lt = absurd (omega (arith, lt))
ranked (true ∷ ms) zero lt = (zero, refl, refl)
ranked (true ∷ ms) (suc j) lt = let r = ranked ms j (omega (arith, lt)) in (suc r.0, r.1, ap suc r.2)
ranked (false ∷ ms) j lt = let r = ranked ms j lt in (suc r.0, r.1, r.2)
