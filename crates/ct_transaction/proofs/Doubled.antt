-- An update leaves at most twice as many distinct cell lists, so a commit of one change makes at most twice the words that are
-- counted before it.
use Rattle.std.proofs.Common.{◌≡◌, ℕ, ◌+◌, ◌*◌, ◌≤◌, Bool, true, false, ◌||◌, List, [], ◌∷◌, ◌++◌, refl, ap, sym, ◌∙◌, arith}
use Rattle.std.{specs.Prelude.if◌then◌else◌, specs.List.list_any, proofs.Math.Nat.mul_assoc, proofs.lemmas.Nat.mul-le}
use Rattle.std.proofs.lemmas.Bool.{false≢true, or_left, or_right}
use Rattle.ct_word.{specs.declared.values.Term.Term, specs.Value.{same_cells, same_text}, specs.Change.{PlainChange, Delete, Update, PlainCommit}}
use Rattle.ct_word.proofs.Alike.{cells_decide}
use Rattle.ct_query.{specs.Bounds.ops, specs.Patterns.{patterns, with_sets, pattern_changes, distinct_count, count}, specs.Updates.{Sets, updated_cells, with_updated}}
use Rattle.ct_query.proofs.Laws.{patterns_commit}
use Rattle.ct_keeper.specs.Bounds.{applied_words}

-- one cell list more
one_more : (l : List Term) (ls : List (List Term)) → distinct_count (l ∷ ls) ≤ distinct_count ls + 1
one_more l ls = by_test (list_any (same_cells l) ls) where
  by_test : (b : Bool) → (if b then distinct_count ls else distinct_count ls + 1) ≤ distinct_count ls + 1
  by_test true = omega arith
  by_test false = omega arith

module _ (sets : Sets) where
  abbrev put : List Term → List Term
  put l = updated_cells sets l

  -- where a cell list is found, so are it and the one with the sets after the update
  found : (l : List Term) (ls : List (List Term)) → list_any (same_cells l) ls ≡ true
      → (list_any (same_cells l) (with_updated sets ls) ≡ true) × (list_any (same_cells (put l)) (with_updated sets ls) ≡ true)
  found l [] e = absurd (false≢true e)
  found l (m ∷ ms) e = by_test (same_cells l m) refl e (found l ms) where
    by_test : (b : Bool) → same_cells l m ≡ b → (same_cells l m || list_any (same_cells l) ms) ≡ true
        → (list_any (same_cells l) ms ≡ true → (list_any (same_cells l) (with_updated sets ms) ≡ true) × (list_any (same_cells (put l)) (with_updated sets ms) ≡ true))
        → (list_any (same_cells l) (m ∷ put m ∷ with_updated sets ms) ≡ true) × (list_any (same_cells (put l)) (m ∷ put m ∷ with_updated sets ms) ≡ true)
    by_test true s e' later = (
      or_left (same_cells l m) (list_any (same_cells l) (put m ∷ with_updated sets ms)) s,
      or_right (same_cells (put l) m) (list_any (same_cells (put l)) (put m ∷ with_updated sets ms))
          (or_left (same_cells (put l) (put m)) (list_any (same_cells (put l)) (with_updated sets ms)) ((cells_decide (put l) (put m)).1 (ap put ((cells_decide l m).0 s)))),
    )
    by_test false s e' later =
        let both = later (sym (ap (λ b. b || list_any (same_cells l) ms) s) ∙ e') in (
          or_right (same_cells l m) (list_any (same_cells l) (put m ∷ with_updated sets ms)) (or_right (same_cells l (put m)) (list_any (same_cells l) (with_updated sets ms)) both.0),
          or_right (same_cells (put l) m) (list_any (same_cells (put l)) (put m ∷ with_updated sets ms)) (or_right (same_cells (put l) (put m)) (list_any (same_cells (put l)) (with_updated sets ms)) both.1),
        )

  doubled : (ls : List (List Term)) → distinct_count (with_updated sets ls) ≤ 2 * distinct_count ls
  doubled [] = omega arith
  doubled (l ∷ ls) = by_test (list_any (same_cells l) ls) refl (doubled ls) where
    by_test : (b : Bool) → list_any (same_cells l) ls ≡ b → distinct_count (with_updated sets ls) ≤ 2 * distinct_count ls → distinct_count (l ∷ put l ∷ with_updated sets ls) ≤ 2 * distinct_count (l ∷ ls)
    by_test true e most =
        let both = found l ls e in
        let own : distinct_count (l ∷ ls) ≡ distinct_count ls = ap (λ b. if b then distinct_count ls else distinct_count ls + 1) e in
        let inner : distinct_count (put l ∷ with_updated sets ls) ≡ distinct_count (with_updated sets ls) = ap (λ b. if b then distinct_count (with_updated sets ls) else distinct_count (with_updated sets ls) + 1) both.1 in
        let outer : distinct_count (l ∷ put l ∷ with_updated sets ls) ≡ distinct_count (put l ∷ with_updated sets ls) =
        ap (λ b. if b then distinct_count (put l ∷ with_updated sets ls) else distinct_count (put l ∷ with_updated sets ls) + 1) (or_right (same_cells l (put l)) (list_any (same_cells l) (with_updated sets ls)) both.0) in
        omega (arith, most, own, inner, outer)
    by_test false e most =
        let own : distinct_count (l ∷ ls) ≡ distinct_count ls + 1 = ap (λ b. if b then distinct_count ls else distinct_count ls + 1) e in
        let outer = one_more l (put l ∷ with_updated sets ls) in
        let inner = one_more (put l) (with_updated sets ls) in
        omega (arith, most, own, inner, outer)

  counted_once : (b : Bool) (ls : List (List Term)) → distinct_count (if b then with_updated sets ls else ls) ≤ 2 * distinct_count ls
  counted_once true ls = doubled ls
  counted_once false ls = omega arith

twice : (m n k : ℕ) → m ≤ 2 * n → m * k ≤ 2 * (n * k)
twice m n k le = let more = mul-le m k (2 * n) k le (omega arith) in let same = mul_assoc 2 n k in omega (arith, more, same)

-- a commit of one change adds to the rows that it is counted by at most as many as there are
pub one_alone : (g : List PlainCommit) (c : PlainCommit) (x : PlainChange) → c.changes ≡ x ∷ [] → applied_words (count (g ++ c ∷ []) []) x ≤ 2 * applied_words (count g []) x
one_alone g c (Delete name d) e =
    let same : count (g ++ c ∷ []) [] name ≡ count g [] name = ap (λ p. distinct_count (p name)) (patterns_commit g c ∙ ap (pattern_changes (patterns g [])) e) in
    twice (count (g ++ c ∷ []) [] name) (count g [] name) (ops d + 2) (omega (arith, same))
one_alone g c (Update name sets d) e =
    let same : count (g ++ c ∷ []) [] name ≡ distinct_count (with_sets (patterns g []) name sets name) =
    ap (λ p. distinct_count (p name)) (patterns_commit g c ∙ ap (pattern_changes (patterns g [])) e) in
    let most = counted_once sets (same_text name name) (patterns g [] name) in
    twice (count (g ++ c ∷ []) [] name) (count g [] name) (ops d + 5) (omega (arith, same, most))
one_alone g c _ e = omega arith
