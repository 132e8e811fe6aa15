-- Names that are put into a set one by one are new each time exactly where no name stands twice.
use Rattle.std.proofs.Common.{◌≡◌, ℕ, Bool, true, false, not, ◌&&◌, ◌||◌, List, [], ◌∷◌, ◌++◌, ◌+◌, ◌<◌, length, get_or, drop, drop-cons, add-one, refl, ap, sym, ◌∙◌}
use Rattle.std.{specs.List.{list_any, list_all}, proofs.lemmas.List.Folds.list_any-append, proofs.lemmas.Cmp.nat_list_eq_equiv}
use Rattle.indexmap.specs.IndexSet.{insert_key}
use Rattle.ct_word.specs.Value.{same_text}
use Rattle.ct_resolve.specs.Names.{are_distinct}
use native.Mathlib.Omega.{arith}

-- whether each name is new when it is put into a set with these keys
abbrev pub are_new : List (List ℕ) → List (List ℕ) → Bool
are_new ks [] = true
are_new ks (n ∷ ns) = not (list_any (same_text n) ks) && are_new (insert_key same_text ks n) ns

-- whether no name is among these keys
abbrev are_absent : List (List ℕ) → List (List ℕ) → Bool
are_absent ks ns = list_all (λ n. not (list_any (same_text n) ks)) ns

exchanged : (a s b c : Bool) → (not (a || (s || false)) && (not b && c)) ≡ (not (s || b) && (not a && c))
exchanged a s b c = grind arith

gathered : (d b a : Bool) → (d && (not b && a)) ≡ ((not b && d) && a)
gathered d b a = grind arith

never : (a : Bool) → (a && false) ≡ false
never a = grind arith

always : (a : Bool) → (a && true) ≡ a
always a = grind arith

-- one key more
absent_from_more : (ks : List (List ℕ)) (n : List ℕ) (ns : List (List ℕ)) → are_absent (ks ++ n ∷ []) ns ≡ (not (list_any (same_text n) ns) && are_absent ks ns)
absent_from_more ks n [] = refl
absent_from_more ks n (m ∷ ns) =
    ap (λ b. not b && are_absent (ks ++ n ∷ []) ns) (list_any-append (same_text m) ks (n ∷ []))
    ∙ ap (λ b. not (list_any (same_text m) ks || (same_text m n || false)) && b) (absent_from_more ks n ns)
    ∙ exchanged (list_any (same_text m) ks) (same_text m n) (list_any (same_text n) ns) (are_absent ks ns)
    ∙ ap (λ b. not (b || list_any (same_text n) ns) && (not (list_any (same_text m) ks) && are_absent ks ns)) (nat_list_eq_equiv.symm m n)

-- names are new exactly where they are apart from the keys and from each other
new_is : (ks ns : List (List ℕ)) → are_new ks ns ≡ (are_distinct ns && are_absent ks ns)
new_is ks [] = refl
new_is ks (n ∷ ns) = by_first (new_is (ks ++ n ∷ []) ns) (list_any (same_text n) ks) refl where
  by_first : are_new (ks ++ n ∷ []) ns ≡ (are_distinct ns && are_absent (ks ++ n ∷ []) ns) → (b : Bool) → list_any (same_text n) ks ≡ b
      → are_new ks (n ∷ ns) ≡ (are_distinct (n ∷ ns) && are_absent ks (n ∷ ns))
  by_first rest true e = rw e (sym (never (are_distinct (n ∷ ns))))
  by_first rest false e =
      rw e (rest ∙ ap (λ b. are_distinct ns && b) (absent_from_more ks n ns)
      ∙ gathered (are_distinct ns) (list_any (same_text n) ns) (are_absent ks ns))

-- no name stands twice exactly where each is new to the empty set
pub distinct_is : (ns : List (List ℕ)) → are_distinct ns ≡ are_new [] ns
distinct_is ns = sym (new_is [] ns ∙ ap (λ b. are_distinct ns && b) (all_absent ns) ∙ always (are_distinct ns)) where
  all_absent : (ns : List (List ℕ)) → are_absent [] ns ≡ true
  all_absent [] = refl
  all_absent (n ∷ ns) = all_absent ns

-- the first of the names that are left, of which a copy was put into the set; it is known whether it was new
pub is_new_if : (ks ns : List (List ℕ)) (i : ℕ) (n m : List ℕ) (b : Bool) → n ≡ get_or ns i n → i < length ns → m ≡ n → b ≡ not (list_any (same_text m) ks)
    → are_distinct ns ≡ are_new ks (drop i ns) → are_distinct ns ≡ (b && are_new (insert_key same_text ks m) (drop (i + 1) ns))
is_new_if ks ns i n m b at lt same is e =
    e ∙ ap (are_new ks) (drop-cons ns i n lt ∙ ap (λ k. get_or ns i n ∷ drop k ns) (sym (add-one i)) ∙ ap (λ k. k ∷ drop (i + 1) ns) (sym (same ∙ at)))
    ∙ ap (λ c. c && are_new (insert_key same_text ks m) (drop (i + 1) ns)) (sym is)
