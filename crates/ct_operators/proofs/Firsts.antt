-- The items of a list, each once, where it stands first.
use Rattle.std.proofs.Common.{◌≡◌, ℕ, ◌+◌, ◌≤◌, Bool, true, false, not, ◌||◌, List, [], ◌∷◌, ◌++◌, length, cond, filter, refl, ap, sym, ◌∙◌, arith}
use Rattle.std.{specs.List.{list_any, IsDistinct, AllByRecursion, Contains}, specs.Cmp.IsEquivalence, proofs.lemmas.List.{append-nil, append_assoc, length_push}}
use Rattle.std.{proofs.lemmas.List.Elements.{filter-append, All-contains, All-filter, All-contains_itself}, proofs.lemmas.Map.Keys.{IsDistinct-head, IsDistinct-tail}, specs.Prelude.{Result, IfOk}}
use Rattle.std.{proofs.lemmas.Result.IfOk-weaker, proofs.lemmas.Bool.or_right}
use Rattle.ct_word.{specs.Sublist.{IsSublist, ended, left_out, taken}, specs.Value.same_cells, specs.declared.values.Term.Term}
use Rattle.ct_operators.{specs.Tables.{cells_of, firsts}, specs.declared.table.CTable.CTable}
use Rattle.ct_query.proofs.Sublists.{sublist_of_sublist}

-- no items are distinct
pub none_distinct : {K : Type 0} (same : K → K → Bool) → IsDistinct same []
unfolding IsDistinct
none_distinct same = tt

-- what is filtered is a part
pub filtered_part : {A : Type 0} (test : A → Bool) (xs : List A) → IsSublist (filter test xs) xs
filtered_part test [] = ended
filtered_part test (x ∷ xs) = by_test (test x) (filtered_part test xs) where
  by_test : (b : Bool) → IsSublist (filter test xs) xs → IsSublist (cond b (x ∷ filter test xs) (filter test xs)) (x ∷ xs)
  by_test true later = taken later
  by_test false later = left_out later

pub filtered_among : {A : Type 0} (test : A → Bool) (xs : List A) (y : A) → Contains (filter test xs) y → Contains xs y
filtered_among test xs y h = All-contains (Contains xs) (filter test xs) y (All-filter test (Contains xs) xs (All-contains_itself xs)) h

pub firsts_part : {A : Type 0} (same : A → A → Bool) (xs : List A) → IsSublist (firsts same xs) xs
firsts_part same [] = ended
firsts_part same (x ∷ xs) = taken (sublist_of_sublist _ _ _ (filtered_part (λ y. not (same x y)) (firsts same xs)) (firsts_part same xs))

-- a part of the first ones is a part of all
pub part_of_firsts : {A : Type 0} (same : A → A → Bool) (xs ys : List A) → IsSublist xs (firsts same ys) → IsSublist xs ys
part_of_firsts same xs ys p = sublist_of_sublist _ _ _ p (firsts_part same ys)

-- items without doubles are the first ones
apart_stays : {A : Type 0} (same : A → A → Bool) (x : A) (xs : List A) → AllByRecursion (λ y. same x y ≡ false) xs → filter (λ y. not (same x y)) xs ≡ xs
apart_stays same x [] a = refl
apart_stays same x (y ∷ xs) a =
    ap (λ b. cond (not b) (y ∷ filter (λ z. not (same x z)) xs) (filter (λ z. not (same x z)) xs)) a.0 ∙ ap (λ l. y ∷ l) (apart_stays same x xs a.1)

pub firsts_distinct : {A : Type 0} (same : A → A → Bool) (xs : List A) → IsDistinct same xs → firsts same xs ≡ xs
firsts_distinct same [] d = refl
firsts_distinct same (x ∷ xs) d =
    ap (λ l. x ∷ filter (λ y. not (same x y)) l) (firsts_distinct same xs (IsDistinct-tail same x xs d))
    ∙ ap (λ l. x ∷ l) (apart_stays same x xs (IsDistinct-head same x xs d))

module _ {A : Type 0} (same : A → A → Bool) (laws : IsEquivalence same) where
  -- leaving out what is the same as x loses nothing that is the same as y, where x and y differ
  any_other : (x y : A) (zs : List A) → same y x ≡ false → list_any (same y) (filter (λ z. not (same x z)) zs) ≡ list_any (same y) zs
  any_other x y [] ne = refl
  any_other x y (z ∷ zs) ne = by_test (same x z) refl (any_other x y zs ne) where
    by_test : (b : Bool) → same x z ≡ b → list_any (same y) (filter (λ z. not (same x z)) zs) ≡ list_any (same y) zs
        → list_any (same y) (filter (λ z. not (same x z)) (z ∷ zs)) ≡ list_any (same y) (z ∷ zs)
    by_test true p later =
        ap (λ b. list_any (same y) (cond (not b) (z ∷ filter (λ z. not (same x z)) zs) (filter (λ z. not (same x z)) zs))) p ∙ later
        ∙ sym (ap (λ b. b || list_any (same y) zs) (laws.symm y z ∙ sym (laws.congr x z y p) ∙ laws.symm x y ∙ ne))
    by_test false p later =
        ap (λ b. list_any (same y) (cond (not b) (z ∷ filter (λ z. not (same x z)) zs) (filter (λ z. not (same x z)) zs))) p
        ∙ ap (λ b. same y z || b) later

  pub any_first : (y : A) (xs : List A) → list_any (same y) (firsts same xs) ≡ list_any (same y) xs
  any_first y [] = refl
  any_first y (x ∷ xs) = by_test (same y x) refl (any_first y xs) where
    by_test : (b : Bool) → same y x ≡ b → list_any (same y) (firsts same xs) ≡ list_any (same y) xs
        → list_any (same y) (firsts same (x ∷ xs)) ≡ list_any (same y) (x ∷ xs)
    by_test true p later =
        ap (λ b. b || list_any (same y) (filter (λ z. not (same x z)) (firsts same xs))) p ∙ sym (ap (λ b. b || list_any (same y) xs) p)
    by_test false p later = ap (λ b. same y x || b) (any_other x y (firsts same xs) p ∙ later)

  -- one more item: it is known, or it stands last
  firsts-push : (xs : List A) (y : A) → firsts same (xs ++ y ∷ []) ≡ cond (list_any (same y) xs) (firsts same xs) (firsts same xs ++ y ∷ [])
  firsts-push [] y = refl
  firsts-push (x ∷ xs) y = ap (λ l. x ∷ filter (λ z. not (same x z)) l) (firsts-push xs y) ∙ by_tests (list_any (same y) xs) (same y x) refl where
    last_too : (c : Bool) → same y x ≡ c → filter (λ z. not (same x z)) (firsts same xs ++ y ∷ []) ≡ filter (λ z. not (same x z)) (firsts same xs) ++ cond (not c) (y ∷ []) []
    last_too c p =
        filter-append (λ z. not (same x z)) (firsts same xs) (y ∷ [])
        ∙ ap (λ b. filter (λ z. not (same x z)) (firsts same xs) ++ cond (not b) (y ∷ []) []) (laws.symm x y ∙ p)

    by_tests : (b c : Bool) → same y x ≡ c
        → x ∷ filter (λ z. not (same x z)) (cond b (firsts same xs) (firsts same xs ++ y ∷ []))
        ≡ cond (same y x || b) (x ∷ filter (λ z. not (same x z)) (firsts same xs)) (x ∷ (filter (λ z. not (same x z)) (firsts same xs) ++ y ∷ []))
    by_tests true c p = sym (ap (λ b. cond b (firsts same (x ∷ xs)) (firsts same (x ∷ xs) ++ y ∷ [])) (or_right (same y x) true refl))
    by_tests false true p =
        ap (λ l. x ∷ l) (last_too true p ∙ append-nil (filter (λ z. not (same x z)) (firsts same xs)))
        ∙ sym (ap (λ b. cond (b || false) (firsts same (x ∷ xs)) (firsts same (x ∷ xs) ++ y ∷ [])) p)
    by_tests false false p =
        ap (λ l. x ∷ l) (last_too false p) ∙ sym (ap (λ b. cond (b || false) (firsts same (x ∷ xs)) (firsts same (x ∷ xs) ++ y ∷ [])) p)

  pub firsts_known : (xs : List A) (y : A) → list_any (same y) xs ≡ true → firsts same (xs ++ y ∷ []) ≡ firsts same xs
  firsts_known xs y p = firsts-push xs y ∙ ap (λ b. cond b (firsts same xs) (firsts same xs ++ y ∷ [])) p

  pub firsts_new : (xs : List A) (y : A) → list_any (same y) xs ≡ false → firsts same (xs ++ y ∷ []) ≡ firsts same xs ++ y ∷ []
  firsts_new xs y p = firsts-push xs y ∙ ap (λ b. cond b (firsts same xs) (firsts same xs ++ y ∷ [])) p

  long_push : (xs : List A) (y : A) → (length (firsts same xs) ≤ length (firsts same (xs ++ y ∷ []))) × (length (firsts same (xs ++ y ∷ [])) ≤ length (firsts same xs) + 1)
  long_push xs y = by_test (list_any (same y) xs) refl where
    by_test : (b : Bool) → list_any (same y) xs ≡ b
        → (length (firsts same xs) ≤ length (firsts same (xs ++ y ∷ []))) × (length (firsts same (xs ++ y ∷ [])) ≤ length (firsts same xs) + 1)
    by_test true p = let e : length (firsts same (xs ++ y ∷ [])) ≡ length (firsts same xs) = ap (λ l. length l) (firsts_known xs y p) in (omega (arith, e), omega (arith, e))
    by_test false p =
        let e : length (firsts same (xs ++ y ∷ [])) ≡ length (firsts same xs) + 1 = ap (λ l. length l) (firsts_new xs y p) ∙ length_push (firsts same xs) y in
        (omega (arith, e), omega (arith, e))

  -- with further items there are no fewer first ones, and at most one more for each
  pub firsts_long : (xs ys : List A) → (length (firsts same xs) ≤ length (firsts same (xs ++ ys))) × (length (firsts same (xs ++ ys)) ≤ length (firsts same xs) + length ys)
  firsts_long xs [] = let e : length (firsts same (xs ++ [])) ≡ length (firsts same xs) = ap (λ l. length (firsts same l)) (append-nil xs) in (omega (arith, e), omega (arith, e))
  firsts_long xs (y ∷ ys) =
      let one = long_push xs y in
      let rest = firsts_long (xs ++ y ∷ []) ys in
      let e : length (firsts same ((xs ++ y ∷ []) ++ ys)) ≡ length (firsts same (xs ++ y ∷ ys)) = ap (λ l. length (firsts same l)) (append_assoc xs (y ∷ []) ys) in
      (omega (arith, one.0, rest.0, e), omega (arith, one.1, rest.1, e))

-- the rows of an answer are among those that were merged
pub part_of_merged : (ws : List ℕ) {E : Type 0} (r : Result CTable E) (all : List (List Term)) → IfOk r (λ out. IsSublist (cells_of ws out.rows) (firsts same_cells all))
    → IfOk r (λ out. IsSublist (cells_of ws out.rows) all)
part_of_merged ws r all =
    IfOk-weaker r (λ out. IsSublist (cells_of ws out.rows) (firsts same_cells all)) (λ out. IsSublist (cells_of ws out.rows) all) (λ out. part_of_firsts same_cells (cells_of ws out.rows) all)
