-- The bound on a statement's words grows with the counts of rows of the tables, and these grow with the history.
use Rattle.std.{proofs.Common.{ℕ, ◌+◌, ◌*◌, ◌≤◌, Bool, true, false, List, [], ◌∷◌, ◌++◌, arith}, proofs.lemmas.Nat.mul-le, proofs.lemmas.List.Sums.sum_by-le-sum_by}
use Rattle.std.specs.Prelude.{Option, Some, None, option_map, unwrap_or, if◌then◌else◌}
use Rattle.ct_word.{specs.declared.values.Term.Term, specs.Value.same_text, specs.Sublist.IsSublist, specs.Change.PlainCommit}
use Rattle.ct_query.{specs.declared.action.Ask.Ask, specs.Plain.{PlainQuery, PlainAction, PlainStatement}, specs.Size.{row_bound, greatest}}
use Rattle.ct_query.specs.Patterns.{Patterns, patterns, query_pattern, pattern_action, pattern_actions, with_lines, with_sets, count}
use Rattle.ct_query.specs.Updates.{Sets, with_updated}
use Rattle.ct_query.specs.Bounds.{ops, terms, width, product_counts, partial_products, select_words, operator_words, side_words, query_words, nodes, list_words}
use Rattle.ct_query.specs.Bounds.{change_words, applying_words, commit_words, catalogue_words, own_words, bound}
use Rattle.ct_query.proofs.Sublists.{all_of, sublist-append, sublist_updated, pattern_part}
use Rattle.ct_table.proofs.QuerySizes.{row_bound_grows}
use Rattle.ct_keeper.proofs.Counting.{distinct_grows, patterns_kept}
use mathlib.Core.List.{IsPrefix}
use Rattle.ct_query.specs.declared.action.Ask.TheVariants as ask
use Rattle.ct_query.specs.Plain as plain

-- numbers that grow together
abbrev AreLe : List ℕ → List ℕ → Type 0
AreLe [] [] = Unit {0}
AreLe (m ∷ ms) (n ∷ ns) = (m ≤ n) × AreLe ms ns
AreLe _ _ = ⊥

-- both are there, and the second is as great, or neither is
abbrev IsLe? : Option ℕ → Option ℕ → Type 0
IsLe? None None = Unit {0}
IsLe? (Some m) (Some n) = m ≤ n
IsLe? _ _ = ⊥

abbrev AreLe? : Option (List ℕ) → Option (List ℕ) → Type 0
AreLe? None None = Unit {0}
AreLe? (Some ms) (Some ns) = AreLe ms ns
AreLe? _ _ = ⊥

all_le_push : (ms ns : List ℕ) (m n : ℕ) → AreLe ms ns → m ≤ n → AreLe (ms ++ m ∷ []) (ns ++ n ∷ [])
all_le_push [] [] m n a le = (le, tt)
all_le_push (x ∷ ms) (y ∷ ns) m n a le = (a.0, all_le_push ms ns m n a.1 le)
all_le_push _ _ m n a le = absurd a

add_le : (a b m n : ℕ) → a ≤ m → b ≤ n → a + b ≤ m + n
add_le a b m n p q = omega arith

partial_products_grow : (p q : ℕ) (ms ns : List ℕ) → p ≤ q → AreLe ms ns → partial_products p ms ≤ partial_products q ns
partial_products_grow p q [] [] le a = omega arith
partial_products_grow p q (m ∷ ms) (n ∷ ns) le a =
    let more : p * m ≤ q * n = mul-le p m q n le a.0 in
    add_le (m + p * m) (partial_products (p * m) ms) (n + q * n) (partial_products (q * n) ns) (add_le m (p * m) n (q * n) a.0 more)
    (partial_products_grow (p * m) (q * n) ms ns more a.1)
partial_products_grow p q _ _ le a = absurd a

-- more rows, no fewer words of a list
pub lists_grow : (k : Ask) (r s w : ℕ) → r ≤ s → list_words k r w ≤ list_words k s w
lists_grow ask.Rows r s w le = omega arith
lists_grow ask.Possible r s w le = le
lists_grow ask.Certain r s w le =
    let row : r * (2 * w + 2) ≤ s * (2 * w + 2) = mul-le r (2 * w + 2) s (2 * w + 2) le (omega arith) in
    mul-le r (r * (2 * w + 2) + w + 1) s (s * (2 * w + 2) + w + 1) le (omega (arith, row))

-- by any counts and widths
module _ (counts widths : List ℕ → ℕ) where
  -- an action makes words
  pub action_makes : (a : PlainAction) → 1 ≤ change_words counts widths a
  action_makes (plain.Create name columns) = omega arith
  action_makes _ = omega arith

  -- in a transaction or outside
  pub action_makes_words : (own : Option (List PlainAction)) (a : PlainAction) → 1 ≤ bound counts widths own (plain.Act a)
  action_makes_words own a = let one = action_makes a in omega (arith, one)

  -- a statement that evaluates a query makes the words of the query, whatever it asks
  pub question_makes_words : (own : Option (List PlainAction)) (k : Ask) (columns : List (List ℕ)) (q : PlainQuery)
      → 1 ≤ nodes counts q → 1 ≤ bound counts widths own (plain.Asks k columns q)
  question_makes_words own k columns q one = omega (arith, one)

module _ (f g : List ℕ → ℕ) (each : (t : List ℕ) → f t ≤ g t) where
  rows_grow : (q : PlainQuery) → row_bound f q ≤ row_bound g q
  rows_grow q = row_bound_grows f g each q

  push_grows : (a b : Option (List ℕ)) (m n : ℕ) → AreLe? a b → m ≤ n → AreLe? (option_map (λ ns. ns ++ m ∷ []) a) (option_map (λ ns. ns ++ n ∷ []) b)
  push_grows None None m n l le = tt
  push_grows (Some ms) (Some ns) m n l le = all_le_push ms ns m n l le
  push_grows _ _ m n l le = absurd l

  product_grows : (q : PlainQuery) → AreLe? (product_counts f q) (product_counts g q)
  product_grows (plain.Table t) = (each t, tt)
  product_grows (plain.Product a (plain.Table t)) = push_grows (product_counts f a) (product_counts g a) (f t) (g t) (product_grows a) (each t)
  product_grows _ = tt

  times_grow : (k t : ℕ) (a b : Option (List ℕ)) → AreLe? a b → IsLe? (option_map (λ ns. k * partial_products 1 ns + t) a) (option_map (λ ns. k * partial_products 1 ns + t) b)
  times_grow k t None None l = tt
  times_grow k t (Some ms) (Some ns) l =
      add_le (k * partial_products 1 ms) t (k * partial_products 1 ns) t
      (mul-le k (partial_products 1 ms) k (partial_products 1 ns) (omega arith) (partial_products_grow 1 1 ms ns (omega arith) l)) (omega arith)
  times_grow k t _ _ l = absurd l

  select_grows : (q : PlainQuery) → IsLe? (select_words f q) (select_words g q)
  select_grows (plain.Select c q) = times_grow (ops c + 3) (terms c) (product_counts f q) (product_counts g q) (product_grows q)
  select_grows _ = tt

  sides_grow : (m n : ℕ) (a b c d : Option ℕ) → m ≤ n → IsLe? a b → IsLe? c d → IsLe? (side_words m a c) (side_words n b d)
  sides_grow m n None None c d le p q = tt
  sides_grow m n (Some a) (Some b) None None le p q = tt
  sides_grow m n (Some a) (Some b) (Some c) (Some d) le p q = add_le (a + c) m (b + d) n (add_le a c b d p q) le
  sides_grow m n (Some a) (Some b) _ _ le p q = absurd q
  sides_grow m n _ _ c d le p q = absurd p

  pairs_grow : (a b : PlainQuery) (k : ℕ) → row_bound f a * row_bound f b * k ≤ row_bound g a * row_bound g b * k
  pairs_grow a b k =
      mul-le (row_bound f a * row_bound f b) k (row_bound g a * row_bound g b) k
      (mul-le (row_bound f a) (row_bound f b) (row_bound g a) (row_bound g b) (rows_grow a) (rows_grow b)) (omega arith)

  twice_grows : (a : PlainQuery) → 2 * row_bound f a ≤ 2 * row_bound g a
  twice_grows a = mul-le 2 (row_bound f a) 2 (row_bound g a) (omega arith) (rows_grow a)

  query_grows : (q : PlainQuery) → IsLe? (query_words f q) (query_words g q)
  query_grows (plain.Project ks q) = select_grows q
  query_grows (plain.Union a b) =
      sides_grow (operator_words f (plain.Union a b)) (operator_words g (plain.Union a b)) (query_words f a) (query_words g a) (query_words f b) (query_words g b)
      (add_le (row_bound f a) (row_bound f b) (row_bound g a) (row_bound g b) (rows_grow a) (rows_grow b)) (query_grows a) (query_grows b)
  query_grows (plain.Except a b) =
      sides_grow (operator_words f (plain.Except a b)) (operator_words g (plain.Except a b)) (query_words f a) (query_words g a) (query_words f b) (query_words g b)
      (add_le (row_bound f a * row_bound f b * (2 * width a + 2)) (row_bound f a) (row_bound g a * row_bound g b * (2 * width a + 2)) (row_bound g a) (pairs_grow a b (2 * width a + 2)) (rows_grow a))
      (query_grows a) (query_grows b)
  query_grows (plain.Intersect a b) =
      sides_grow (operator_words f (plain.Intersect a b)) (operator_words g (plain.Intersect a b)) (query_words f a) (query_words g a) (query_words f b) (query_words g b)
      (add_le (row_bound f a * row_bound f b * (2 * width a + 1)) (2 * row_bound f a) (row_bound g a * row_bound g b * (2 * width a + 1)) (2 * row_bound g a) (pairs_grow a b (2 * width a + 1)) (twice_grows a))
      (query_grows a) (query_grows b)
  query_grows _ = tt

  known_grows : (a b : Option ℕ) → IsLe? a b → unwrap_or a greatest ≤ unwrap_or b greatest
  known_grows None None l = omega arith
  known_grows (Some m) (Some n) l = l
  known_grows _ _ l = absurd l

  -- more rows in the tables, no fewer words
  pub nodes_grow : (q : PlainQuery) → nodes f q ≤ nodes g q
  nodes_grow q = known_grows (query_words f q) (query_words g q) (query_grows q)

  square_grows : (name : List ℕ) (k : ℕ) → f name * f name * k ≤ g name * g name * k
  square_grows name k = mul-le (f name * f name) k (g name * g name) k (mul-le (f name) (f name) (g name) (g name) (each name) (each name)) (omega arith)

  pub change_grows : (widths : List ℕ → ℕ) (a : PlainAction) → change_words f widths a ≤ change_words g widths a
  change_grows widths (plain.InsertQuery name q) =
      let more = nodes_grow q in
      let rows = mul-le (row_bound f q) (width q + 2) (row_bound g q) (width q + 2) (rows_grow q) (omega arith) in
      omega (arith, more, rows)
  change_grows widths (plain.AssertQuery wanted q) = add_le (nodes f q + 2 * row_bound f q) 6 (nodes g q + 2 * row_bound g q) 6 (add_le (nodes f q) (2 * row_bound f q) (nodes g q) (2 * row_bound g q) (nodes_grow q) (twice_grows q)) (omega arith)
  change_grows widths (plain.AssertKey name columns) =
      add_le (f name * f name * (2 * widths name + 3)) 6 (g name * g name * (2 * widths name + 3)) 6 (square_grows name (2 * widths name + 3)) (omega arith)
  change_grows widths _ = omega arith

  pub applying_grows : (a : PlainAction) → applying_words f a ≤ applying_words g a
  applying_grows (plain.InsertQuery name q) = rows_grow q
  applying_grows (plain.Delete name p) = mul-le (f name) (ops p + 2) (g name) (ops p + 2) (each name) (omega arith)
  applying_grows (plain.Update name sets p) = mul-le (f name) (ops p + 5) (g name) (ops p + 5) (each name) (omega arith)
  applying_grows _ = omega arith

  catalogue_grows : (own : Option (List PlainAction)) (a : PlainAction) → catalogue_words f own a ≤ catalogue_words g own a
  catalogue_grows None a = applying_grows a
  catalogue_grows (Some own) a = omega arith

  commits_grow : (actions : List PlainAction) → commit_words f actions ≤ commit_words g actions
  commits_grow [] = omega arith
  commits_grow (a ∷ actions) =
      let all = sum_by-le-sum_by (applying_words f) (applying_words g) (a ∷ actions) applying_grows in omega (arith, all)

  own_grow : (own : Option (List PlainAction)) → own_words f own ≤ own_words g own
  own_grow None = omega arith
  own_grow (Some own) = commits_grow own

  -- nor is the bound of a statement smaller, in a transaction or outside
  pub bound_grows : (widths : List ℕ → ℕ) (own : Option (List PlainAction)) (st : PlainStatement) → bound f widths own st ≤ bound g widths own st
  bound_grows widths own (plain.Act a) =
      add_le (change_words f widths a + applying_words f a) (catalogue_words f own a) (change_words g widths a + applying_words g a) (catalogue_words g own a)
      (add_le (change_words f widths a) (applying_words f a) (change_words g widths a) (applying_words g a) (change_grows widths a) (applying_grows a)) (catalogue_grows own a)
  bound_grows widths own (plain.Asks k columns q) =
      add_le (nodes f q) (list_words k (row_bound f q) (width q)) (nodes g q) (list_words k (row_bound g q) (width q))
      (nodes_grow q) (lists_grow k (row_bound f q) (row_bound g q) (width q) (rows_grow q))
  bound_grows widths own plain.Begin = omega arith
  bound_grows widths own plain.Commit = own_grow own
  bound_grows widths own plain.Rollback = omega arith

  -- so one that may make a word may make one where there are more rows
  pub makes_words_still : (widths : List ℕ → ℕ) (own : Option (List PlainAction)) (st : PlainStatement) → 1 ≤ bound f widths own st → 1 ≤ bound g widths own st
  makes_words_still widths own st le = let more = bound_grows widths own st in omega (arith, le, more)

-- patterns that are parts of others stay so with further cell lists, with sets, with those of an action, and with those of
-- actions
pub lines_part : (p p' : Patterns) (each : (n : List ℕ) → IsSublist (p n) (p' n)) (name : List ℕ) (more more' : List (List Term)) → IsSublist more more'
    → (n : List ℕ) → IsSublist (with_lines p name more n) (with_lines p' name more' n)
lines_part p p' each name more more' part n = by_test (same_text name n) where
  by_test : (b : Bool) → IsSublist (if b then p n ++ more else p n) (if b then p' n ++ more' else p' n)
  by_test true = sublist-append (p n) (p' n) more more' (each n) part
  by_test false = each n

pub sets_part : (p p' : Patterns) (each : (n : List ℕ) → IsSublist (p n) (p' n)) (name : List ℕ) (sets : Sets) (n : List ℕ) → IsSublist (with_sets p name sets n) (with_sets p' name sets n)
sets_part p p' each name sets n = by_test (same_text name n) where
  by_test : (b : Bool) → IsSublist (if b then with_updated sets (p n) else p n) (if b then with_updated sets (p' n) else p' n)
  by_test true = sublist_updated sets (p n) (p' n) (each n)
  by_test false = each n

action_part : (p p' : Patterns) (each : (n : List ℕ) → IsSublist (p n) (p' n)) (a : PlainAction) (n : List ℕ) → IsSublist (pattern_action p a n) (pattern_action p' a n)
action_part p p' each (plain.InsertRows name rs c) n = lines_part p p' each name rs rs (all_of rs) n
action_part p p' each (plain.InsertQuery name q) n = lines_part p p' each name (query_pattern p q) (query_pattern p' q) (pattern_part p p' each q) n
action_part p p' each (plain.Update name sets c) n = sets_part p p' each name sets n
action_part p p' each _ n = each n

pub actions_part : (p p' : Patterns) (each : (n : List ℕ) → IsSublist (p n) (p' n)) (actions : List PlainAction) (n : List ℕ)
    → IsSublist (pattern_actions p actions n) (pattern_actions p' actions n)
actions_part p p' each [] n = each n
actions_part p p' each (a ∷ actions) n = actions_part (pattern_action p a) (pattern_action p' a) (action_part p p' each a) actions n

-- no count falls when a history goes on, whatever actions follow
pub count_grows : (h g : List PlainCommit) → IsPrefix h g → (actions : List PlainAction) (t : List ℕ) → count h actions t ≤ count g actions t
count_grows h g p actions t =
    distinct_grows (patterns h actions t) (patterns g actions t) (actions_part (patterns h []) (patterns g []) (patterns_kept h g p) actions t)
