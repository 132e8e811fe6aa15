-- Rows of different cells are at most as many as the distinct cells of a pattern that they are a part of.
use Rattle.std.{proofs.Common.{◌≡◌, ◌+◌, ◌≤◌, Bool, true, false, ◌||◌, List, [], ◌∷◌, length, cond, refl, ap, sym, subst, ◌∙◌, arith}, specs.Set.unique_keys}
use Rattle.std.{specs.Prelude.if◌then◌else◌, specs.List.{IsDistinct, list_any}, proofs.lemmas.Bool.{or_left, or_right}}
use Rattle.std.proofs.lemmas.Map.Made.{length-le_from_is_member}
use Rattle.ct_word.{specs.declared.values.Term.Term, specs.Value.same_cells, specs.Sublist.{IsSublist, ended, left_out, taken}, proofs.Alike.cells_decide}
use Rattle.ct_query.specs.Patterns.{distinct_count}
use Rattle.ct_operators.proofs.Merges.{cells_equiv}
use Rattle.ct_table.proofs.Entries.{cases}

-- what passes in a part passes in the list
part_any : {A : Type 0} (test : A → Bool) (xs ys : List A) → IsSublist xs ys → list_any test xs ≡ true → list_any test ys ≡ true
part_any test xs ys ended e = e
part_any test xs (y ∷ ys) (left_out p) e = or_right (test y) (list_any test ys) (part_any test xs ys p e)
part_any test (x ∷ xs) (x' ∷ ys) (taken p) e = cases (test x)
    (λ q. or_left (test x) (list_any test ys) q)
    (λ q. or_right (test x) (list_any test ys) (part_any test xs ys p (sym (ap (λ b. b || list_any test xs) q) ∙ e)))

-- cells that are there are there where each stands once
once_any : (c : List Term) (ls : List (List Term)) → list_any (same_cells c) ls ≡ true → list_any (same_cells c) (unique_keys same_cells ls) ≡ true
once_any c [] e = e
once_any c (l ∷ ls) e = by_tests (list_any (same_cells l) ls) (same_cells c l) refl refl (once_any c ls) where
  later : same_cells c l ≡ false → list_any (same_cells c) ls ≡ true
  later s = sym (ap (λ b. b || list_any (same_cells c) ls) s) ∙ e

  by_tests : (b s : Bool) → list_any (same_cells l) ls ≡ b → same_cells c l ≡ s → (list_any (same_cells c) ls ≡ true → list_any (same_cells c) (unique_keys same_cells ls) ≡ true)
      → list_any (same_cells c) (cond b (unique_keys same_cells ls) (l ∷ unique_keys same_cells ls)) ≡ true
  by_tests true true p s rest = rest (ap (λ k. list_any (same_cells k) ls) ((cells_decide c l).0 s) ∙ p)
  by_tests true false p s rest = rest (later s)
  by_tests false true p s rest = or_left (same_cells c l) (list_any (same_cells c) (unique_keys same_cells ls)) s
  by_tests false false p s rest = or_right (same_cells c l) (list_any (same_cells c) (unique_keys same_cells ls)) (rest (later s))

-- the count of distinct cell lists is that of the cell lists, each once
once_count : (ls : List (List Term)) → length (unique_keys same_cells ls) ≡ distinct_count ls
once_count [] = refl
once_count (l ∷ ls) = by_test (list_any (same_cells l) ls) (once_count ls) where
  by_test : (b : Bool) → length (unique_keys same_cells ls) ≡ distinct_count ls
      → length (cond b (unique_keys same_cells ls) (l ∷ unique_keys same_cells ls)) ≡ (if b then distinct_count ls else distinct_count ls + 1)
  by_test true rest = rest
  by_test false rest = omega arith

pub rows_counted : (cs pattern : List (List Term)) → IsDistinct same_cells cs → IsSublist cs pattern → length cs ≤ distinct_count pattern
rows_counted cs pattern d p =
    subst (λ n. length cs ≤ n) (once_count pattern)
    (length-le_from_is_member cells_equiv cs (unique_keys same_cells pattern) d (λ c e. once_any c pattern (part_any (same_cells c) cs pattern p e)))
