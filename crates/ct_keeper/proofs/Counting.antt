-- After a longer history no fewer rows are counted, so a commit of the same changes may make as many words.
use Rattle.std.proofs.Common.{◌≡◌, ℕ, ◌+◌, ◌≤◌, Bool, true, false, List, [], ◌∷◌, ◌++◌, length, map, refl, ap, sym, subst, ◌∙◌, arith}
use Rattle.std.{specs.Prelude.if◌then◌else◌, specs.List.{AllByRecursion, IsDistinct, list_any}, proofs.lemmas.Bool.or_parts, proofs.lemmas.Nat.mul-le}
use Rattle.std.{proofs.lemmas.Grind.flat_map-append, proofs.lemmas.List.Sums.sum_by-le-sum_by}
use Rattle.ct_word.{specs.declared.values.Term.Term, specs.Change.{PlainChange, Insert, Delete, Update, PlainCommit}, specs.Sublist.{IsSublist, ended, left_out, taken}}
use Rattle.ct_word.specs.Value.{same_cells, same_text}
use Rattle.ct_query.{specs.Bounds.ops, specs.Patterns.{Patterns, no_patterns, pattern_change, pattern_changes, patterns, distinct_count, count}}
use Rattle.ct_query.{specs.Worlds.changes_of, proofs.Laws.{pattern_changes-append, patterns_commit}}
use Rattle.ct_query.{specs.Updates.{Sets, with_updated}, proofs.Sublists.{all_of, sublist-append, sublist_of_sublist, sublist_updated}}
use Rattle.ct_table.{proofs.Counted.rows_counted, proofs.Following.change_kept}
use Rattle.ct_keeper.specs.Bounds.{applied_words, commit_words}
use mathlib.Core.List.{IsPrefix}

-- cells that are not among some are none of a part of them
apart : (l : List Term) (ls ms : List (List Term)) → IsSublist ls ms → list_any (same_cells l) ms ≡ false → AllByRecursion (λ m. same_cells l m ≡ false) ls
apart l ls ms ended e = tt
apart l ls (m ∷ ms) (left_out p) e = apart l ls ms p (or_parts (same_cells l m) (list_any (same_cells l) ms) e).1
apart l (m ∷ ls) (n ∷ ms) (taken p) e = let both = or_parts (same_cells l n) (list_any (same_cells l) ms) e in (both.0, apart l ls ms p both.1)

-- a part of cell lists has each of them once
record Once (ls : List (List Term)) : Type 0 where
  part : List (List Term)
  distinct : IsDistinct same_cells part
  is_part : IsSublist part ls
  counts : length part ≡ distinct_count ls

once : (ls : List (List Term)) → Once ls
unfolding IsDistinct
once [] = record { part = []; distinct = tt; is_part = ended; counts = refl }
once (l ∷ ls) = by_test (list_any (same_cells l) ls) refl (once ls) where
  by_test : (b : Bool) → list_any (same_cells l) ls ≡ b → (o : Once ls) → Once (l ∷ ls)
  by_test true e o = record { part = o.part; distinct = o.distinct; is_part = left_out o.is_part; counts = o.counts ∙ sym (ap (λ b. if b then distinct_count ls else distinct_count ls + 1) e) }
  by_test false e o = record {
    part = l ∷ o.part;
    distinct = (apart l o.part ls o.is_part e, o.distinct);
    is_part = taken o.is_part;
    counts =
        let same = o.counts in
        let one : length (l ∷ o.part) ≡ distinct_count ls + 1 = omega (arith, same) in
        one ∙ sym (ap (λ b. if b then distinct_count ls else distinct_count ls + 1) e);
  }

-- no fewer distinct cell lists are among more of them
pub distinct_grows : (ls ms : List (List Term)) → IsSublist ls ms → distinct_count ls ≤ distinct_count ms
distinct_grows ls ms p = let o = once ls in subst (λ n. n ≤ distinct_count ms) o.counts (rows_counted o.part ms o.distinct (sublist_of_sublist o.part ls ms o.is_part p))

-- further cell lists at one name
lines_grow : (b : Bool) (ls ms more : List (List Term)) → IsSublist ls ms → IsSublist (if b then ls ++ more else ls) (if b then ms ++ more else ms)
lines_grow true ls ms more p = sublist-append ls ms more more p (all_of more)
lines_grow false ls ms more p = p

-- and each with its sets made on it
sets_grow : (b : Bool) (ls ms : List (List Term)) (sets : Sets) → IsSublist ls ms → IsSublist (if b then with_updated sets ls else ls) (if b then with_updated sets ms else ms)
sets_grow true ls ms sets p = sublist_updated sets ls ms p
sets_grow false ls ms sets p = p

changes_kept : (p : Patterns) (xs : List PlainChange) (n : List ℕ) → IsSublist (p n) (pattern_changes p xs n)
changes_kept p [] n = all_of (p n)
changes_kept p (x ∷ xs) n = sublist_of_sublist (p n) (pattern_change p x n) (pattern_changes (pattern_change p x) xs n) (change_kept p x n) (changes_kept (pattern_change p x) xs n)

change_grows : (p q : Patterns) → ((n : List ℕ) → IsSublist (p n) (q n)) → (x : PlainChange) (n : List ℕ) → IsSublist (pattern_change p x n) (pattern_change q x n)
change_grows p q each (Insert name rs) n = lines_grow (same_text name n) (p n) (q n) (map (λ r. r.cells) rs) (each n)
change_grows p q each (Update name sets c) n = sets_grow (same_text name n) (p n) (q n) sets (each n)
change_grows p q each _ n = each n

changes_grow : (p q : Patterns) → ((n : List ℕ) → IsSublist (p n) (q n)) → (xs : List PlainChange) (n : List ℕ) → IsSublist (pattern_changes p xs n) (pattern_changes q xs n)
changes_grow p q each [] = each
changes_grow p q each (x ∷ xs) = changes_grow (pattern_change p x) (pattern_change q x) (change_grows p q each x) xs

-- the patterns of a history are parts of those of a longer one
pub patterns_kept : (h g : List PlainCommit) → IsPrefix h g → (n : List ℕ) → IsSublist (patterns h [] n) (patterns g [] n)
patterns_kept h g longer n =
    let k = longer.0 in
    let all : pattern_changes (patterns h []) (changes_of k) ≡ patterns g [] =
    sym (pattern_changes-append no_patterns (changes_of h) (changes_of k))
    ∙ ap (pattern_changes no_patterns) (sym (flat_map-append (λ (d : PlainCommit). d.changes) h k))
    ∙ ap (λ f. patterns f []) longer.1 in
    subst (λ q. IsSublist (patterns h [] n) (q n)) all (changes_kept (patterns h []) (changes_of k) n)

module _ (h g : List PlainCommit) (longer : IsPrefix h g) (c : PlainCommit) where
  patterns_grow : (n : List ℕ) → IsSublist (patterns (h ++ c ∷ []) [] n) (patterns (g ++ c ∷ []) [] n)
  patterns_grow n =
      subst (λ q. IsSublist (q n) (patterns (g ++ c ∷ []) [] n)) (sym (patterns_commit h c))
      (subst (λ q. IsSublist (pattern_changes (patterns h []) c.changes n) (q n)) (sym (patterns_commit g c)) (changes_grow (patterns h []) (patterns g []) (patterns_kept h g longer) c.changes n))

  applied_grows : (x : PlainChange) → applied_words (count (h ++ c ∷ []) []) x ≤ applied_words (count (g ++ c ∷ []) []) x
  applied_grows (Delete name d) =
      mul-le (count (h ++ c ∷ []) [] name) (ops d + 2) (count (g ++ c ∷ []) [] name) (ops d + 2)
      (distinct_grows (patterns (h ++ c ∷ []) [] name) (patterns (g ++ c ∷ []) [] name) (patterns_grow name)) (omega arith)
  applied_grows (Update name sets d) =
      mul-le (count (h ++ c ∷ []) [] name) (ops d + 5) (count (g ++ c ∷ []) [] name) (ops d + 5)
      (distinct_grows (patterns (h ++ c ∷ []) [] name) (patterns (g ++ c ∷ []) [] name) (patterns_grow name)) (omega arith)
  applied_grows _ = omega arith

  pub commit_grows : (xs : List PlainChange) → commit_words (count (h ++ c ∷ []) []) xs ≤ commit_words (count (g ++ c ∷ []) []) xs
  commit_grows [] = omega arith
  commit_grows (x ∷ xs) =
      let all = sum_by-le-sum_by (applied_words (count (h ++ c ∷ []) [])) (applied_words (count (g ++ c ∷ []) [])) (x ∷ xs) applied_grows in
      omega (arith, all)
