-- A query that conditions were moved down in is evaluated within the words of the query.
use Rattle.std.proofs.Common.{◌≡◌, ℕ, ◌+◌, ◌*◌, ◌≤◌, Bool, true, false, cond, List, [], ◌∷◌, ◌++◌, map, length, refl, sym, ap, subst, ◌∙◌, arith}
use Rattle.std.{specs.Prelude.{filter, sum_by, Option, Some, None, option_map, IfSome}, proofs.lemmas.Nat.mul-le, proofs.lemmas.List.Sums.{sum_by-append, sum_by-cons}}
use Rattle.ct_word.{specs.declared.values.Term.Term, specs.Condition.{Condition, Conditions, True, False, Same, Not, And, Or, none, also, listed}}
use Rattle.ct_query.specs.declared.schema.Heading.{Heading}
use Rattle.ct_query.{specs.Plain.{PlainQuery, Table, Select, Project, Product, Union, Except, Intersect}, specs.Fits.width, specs.Size.row_bound}
use Rattle.ct_query.specs.Bounds.{ops, all_ops, connectives, literal_words, terms, over_equalities, over_all_equalities, product_counts, partial_products, select_words, side_words, query_words, operator_words}
use Rattle.ct_query.{specs.Terms.{condition_terms, all_terms, query_terms}, proofs.Products.{product_from, product_last, partial_last}}
use Rattle.ct_plan.specs.Columns.{columns_of, is_of, is_across, counted_from, all_counted_from}
use Rattle.ct_plan.{specs.Planned.{conjuncts, all_conjuncts, taken_apart, selected, placed}, specs.Spent.{row_words, literals}, proofs.Bare.{placed_bound, placed_width}}
use Rattle.ct_query.specs.Bounds as bounds
use Rattle.ct_plan.specs.declared.sides.Side.TheVariants as side

-- what a selection of these conditions costs for each row
abbrev pub weight : List Condition → ℕ
weight cs = sum_by (λ c. ops c + 1) cs

-- a run of AND costs as much as its conditions, one by one
run_weight : (cs : List Condition) → all_ops (listed cs) + length cs ≡ weight cs
run_weight [] = refl
run_weight (c ∷ cs) = omega (arith, run_weight cs, sum_by-cons (λ c. ops c + 1) c cs)

run_connectives : (c : Condition) (cs : List Condition) → connectives (listed (c ∷ cs)) ≡ length cs
run_connectives c [] = refl
run_connectives c (d ∷ cs) = omega (arith, run_connectives d cs)

weight_filter : (f : Condition → Bool) (cs : List Condition) → weight (filter f cs) ≤ weight cs
weight_filter f [] = omega arith
weight_filter f (c ∷ cs) = by_test (f c) (weight_filter f cs) where
  by_test : (b : Bool) → weight (filter f cs) ≤ weight cs → weight (cond b (c ∷ filter f cs) (filter f cs)) ≤ weight (c ∷ cs)
  by_test true le = omega (arith, le, sum_by-cons (λ c. ops c + 1) c cs, sum_by-cons (λ c. ops c + 1) c (filter f cs))
  by_test false le = omega (arith, le, sum_by-cons (λ c. ops c + 1) c cs)

module _ (n : ℕ) where
  connectives_counted : (cs : Conditions) → connectives (all_counted_from n cs) ≡ connectives cs
  connectives_counted none = refl
  connectives_counted (also c none) = refl
  connectives_counted (also c (also d cs)) = ap (λ k. k + 1) (connectives_counted (also d cs))

  mutual
    ops_counted : (c : Condition) → ops (counted_from n c) ≡ ops c
    ops_counted True = refl
    ops_counted False = refl
    ops_counted (Same s t) = refl
    ops_counted (Not c) = ap (λ k. k + 1) (ops_counted c)
    ops_counted (And cs) = let all = all_ops_counted cs in let joined = connectives_counted cs in λ i. all i + joined i
    ops_counted (Or cs) = let all = all_ops_counted cs in let joined = connectives_counted cs in λ i. all i + joined i

    all_ops_counted : (cs : Conditions) → all_ops (all_counted_from n cs) ≡ all_ops cs
    all_ops_counted none = refl
    all_ops_counted (also c cs) = let first = ops_counted c in let rest = all_ops_counted cs in λ i. first i + rest i

  weight_counted : (cs : List Condition) → weight (map (counted_from n) cs) ≡ weight cs
  weight_counted [] = refl
  weight_counted (c ∷ cs) =
      let first = ops_counted c in
      let rest = weight_counted cs in
      sum_by-cons (λ c. ops c + 1) (counted_from n c) (map (counted_from n) cs) ∙ (λ i. first i + 1 + rest i) ∙ sym (sum_by-cons (λ c. ops c + 1) c cs)

mutual
  conjuncts_weight : (c : Condition) → weight (conjuncts c) ≤ ops c + 1
  conjuncts_weight True = omega arith
  conjuncts_weight False = omega arith
  conjuncts_weight (Same s t) = omega arith
  conjuncts_weight (Not c) = omega arith
  conjuncts_weight (And cs) = all_conjuncts_weight cs
  conjuncts_weight (Or cs) = omega arith

  all_conjuncts_weight : (cs : Conditions) → weight (all_conjuncts cs) ≤ all_ops cs + connectives cs + 1
  all_conjuncts_weight none = omega arith
  all_conjuncts_weight (also c none) = omega (arith, conjuncts_weight c, sum_by-append (λ c. ops c + 1) (conjuncts c) [])
  all_conjuncts_weight (also c (also d cs)) =
      omega (arith, conjuncts_weight c, all_conjuncts_weight (also d cs), sum_by-append (λ c. ops c + 1) (conjuncts c) (all_conjuncts (also d cs)))

alone_weight : (c : Condition) → weight (c ∷ []) ≤ ops c + 1
alone_weight c = omega arith

apart_weight : (c : Condition) (q : PlainQuery) → weight (taken_apart c q) ≤ ops c + 1
apart_weight c (Product a b) = conjuncts_weight c
apart_weight c _ = alone_weight c

-- the literals of a condition
mutual
  literals_of : (c : Condition) → sum_by literal_words (condition_terms c) ≡ terms c
  literals_of True = refl
  literals_of False = refl
  literals_of (Same s t) = omega arith
  literals_of (Not c) = literals_of c
  literals_of (And cs) = all_literals_of cs
  literals_of (Or cs) = all_literals_of cs

  all_literals_of : (cs : Conditions) → sum_by literal_words (all_terms cs) ≡ over_all_equalities (λ s t. literal_words s + literal_words t) cs
  all_literals_of none = refl
  all_literals_of (also c cs) =
      let first = literals_of c in
      let rest = all_literals_of cs in
      sum_by-append literal_words (condition_terms c) (all_terms cs) ∙ (λ i. first i + rest i)

-- products, multiplied out
no_weight : (x r : ℕ) → x ≡ x + r * 0
no_weight x r = grind arith

selection_multiplied : (k p : ℕ) → (k + 3) * p ≡ (k + 1 + 1) * p + p
selection_multiplied k p = grind arith

table_multiplied : (m n : ℕ) → (m + 1) * (n + 1 * n + 0) ≡ n * m + n + (n * m + n)
table_multiplied m n = grind arith

last_multiplied : (m p n r : ℕ) → (m + 1) * (p + (n + r * n)) ≡ (m + 1) * p + (n * m + n) + (r * n * m + r * n)
last_multiplied m p n r = grind arith

module _ (s : List Heading) (counts : List ℕ → ℕ) where
  selected_words : (cs : List Condition) (q : PlainQuery) → row_words s counts (selected cs q) ≡ row_words s counts q + row_bound counts q * weight cs
  selected_words [] q = no_weight (row_words s counts q) (row_bound counts q)
  selected_words (c ∷ []) q = let each : ops c + 1 ≡ weight (c ∷ []) = omega arith in ap (λ k. row_words s counts q + row_bound counts q * k) each
  selected_words (c ∷ d ∷ cs) q =
      let each : all_ops (listed (c ∷ d ∷ cs)) + connectives (listed (c ∷ d ∷ cs)) + 1 ≡ weight (c ∷ d ∷ cs) =
      omega (arith, run_weight (c ∷ d ∷ cs), run_connectives c (d ∷ cs)) in
      ap (λ k. row_words s counts q + row_bound counts q * k) each

  -- a product of tables with these counts, each selection of which weighs at most m: its words and its rows
  record Costs (m : ℕ) (ns : List ℕ) (r w : ℕ) : Type 0 where
    pub product : product_from 1 ns ≡ r
    pub rows : r ≤ partial_products 1 ns
    pub words : w ≤ (m + 1) * partial_products 1 ns

  -- one more table on the right
  last_costs : (o : Option (List ℕ)) (m r w n right across : ℕ) → right ≤ m → across ≤ m → IfSome o (λ ns. Costs m ns r w)
      → IfSome (option_map (λ ns. ns ++ n ∷ []) o) (λ ns. Costs m ns (r * n) (w + (0 + n * right) + r * n + r * n * across))
  last_costs None m r w n right across le le' h = tt
  last_costs (Some ns) m r w n right across le le' h =
      let sum = partial_last 1 ns n in
      let p = partial_products 1 ns in
      let product : product_from 1 ns * n ≡ r * n = ap (λ k. k * n) h.product in
      let of_right : n * right ≤ n * m = mul-le n right n m (omega arith) le in
      let of_pairs : r * n * across ≤ r * n * m = mul-le (r * n) across (r * n) m (omega arith) le' in
      let apart : (m + 1) * (p + (n + r * n)) ≡ (m + 1) * p + (n * m + n) + (r * n * m + r * n) = last_multiplied m p n r in
      let whole : partial_products 1 (ns ++ n ∷ []) ≡ p + (n + r * n) = sum ∙ ap (λ k. p + (n + k)) product in
      record {
        product = product_last 1 ns n ∙ product;
        rows = omega (arith, whole);
        words = subst (λ k. w + (0 + n * right) + r * n + r * n * across ≤ (m + 1) * k) (sym whole) (omega (arith, h.words, of_right, of_pairs, apart));
      }

  of_product : (m : ℕ) (q : PlainQuery) (cs : List Condition) → weight cs ≤ m → IfSome (product_counts counts q) (λ ns. Costs m ns (row_bound counts q) (row_words s counts (placed s cs q)))
  of_product m (Table t) cs le =
      let n = counts t in
      let of_rows : n * weight cs ≤ n * m = mul-le n (weight cs) n m (omega arith) le in
      let sum : (m + 1) * (n + 1 * n + 0) ≡ n * m + n + (n * m + n) = table_multiplied m n in
      record { product = omega arith; rows = omega arith; words = omega (arith, selected_words cs (Table t), of_rows, sum) }
  of_product m (Product a (Table t)) cs le =
      let k = columns_of s a in
      let lefts = filter (is_of side.Left k) cs in
      let rights = map (counted_from k) (filter (is_of side.Right k) cs) in
      let across = filter (is_across k) cs in
      let r = row_bound counts a in
      let n = counts t in
      let bound_left : row_bound counts (placed s lefts a) ≡ r = placed_bound counts s a lefts in
      let bound_right : row_bound counts (selected rights (Table t)) ≡ n = placed_bound counts s (Table t) rights in
      let words_right : row_words s counts (selected rights (Table t)) ≡ 0 + n * weight rights = selected_words rights (Table t) in
      let words_are : row_words s counts (placed s cs (Product a (Table t))) ≡ row_words s counts (placed s lefts a) + (0 + n * weight rights) + r * n + r * n * weight across =
      selected_words across (Product (placed s lefts a) (selected rights (Table t)))
      ∙ (λ i. row_words s counts (placed s lefts a) + words_right i + bound_left i * bound_right i + bound_left i * bound_right i * weight across) in
      let le_right : weight rights ≤ m = omega (arith, weight_counted k (filter (is_of side.Right k) cs), weight_filter (is_of side.Right k) cs) in
      let le_across : weight across ≤ m = omega (arith, weight_filter (is_across k) cs) in
      subst (λ w. IfSome (option_map (λ ns. ns ++ n ∷ []) (product_counts counts a)) (λ ns. Costs m ns (r * n) w)) (sym words_are)
      (last_costs (product_counts counts a) m r (row_words s counts (placed s lefts a)) n (weight rights) (weight across) le_right le_across
      (of_product m a lefts (omega (arith, weight_filter (is_of side.Left k) cs))))
  of_product m _ cs le = tt

  -- a product of tables has no literals
  plain_last : (o : Option (List ℕ)) (n : ℕ) (ts : List Term) → IfSome o (λ ns. ts ≡ []) → IfSome (option_map (λ ns. ns ++ n ∷ []) o) (λ ns. ts ++ [] ≡ [])
  plain_last None n ts h = tt
  plain_last (Some ns) n ts h = ap (λ l. l ++ []) h

  no_literals : (q : PlainQuery) → IfSome (product_counts counts q) (λ ns. query_terms q ≡ [])
  no_literals (Table t) = refl
  no_literals (Product a (Table t)) = plain_last (product_counts counts a) (counts t) (query_terms a) (no_literals a)
  no_literals _ = tt

  selection_sum : (o : Option (List ℕ)) (k t r w : ℕ) (own inner : List Term) → sum_by literal_words own ≡ t → IfSome o (λ ns. inner ≡ []) → IfSome o (λ ns. Costs (k + 1) ns r w)
      → IfSome (option_map (λ ns. (k + 3) * partial_products 1 ns + t) o) (λ n. w + r + sum_by literal_words (own ++ inner) ≤ n)
  selection_sum None k t r w own inner e plain h = tt
  selection_sum (Some ns) k t r w own inner e plain h =
      let p = partial_products 1 ns in
      let sum : (k + 3) * p ≡ (k + 1 + 1) * p + p = selection_multiplied k p in
      let parts : sum_by literal_words (own ++ inner) ≡ sum_by literal_words own + sum_by literal_words inner = sum_by-append literal_words own inner in
      let empty : sum_by literal_words inner ≡ 0 = ap (sum_by literal_words) plain in
      omega (arith, h.words, h.rows, sum, parts, empty, e)

  of_selection : (q : PlainQuery) → IfSome (select_words counts q) (λ n. row_words s counts (placed s [] q) + row_bound counts q + literals q ≤ n)
  of_selection (Select c q) =
      selection_sum (product_counts counts q) (ops c) (terms c) (row_bound counts q) (row_words s counts (placed s (taken_apart c q) q)) (condition_terms c) (query_terms q) (literals_of c)
      (no_literals q) (of_product (ops c + 1) q (taken_apart c q) (apart_weight c q))
  of_selection _ = tt

  -- the words of a query are within a number, and its width is that of the bounds
  abbrev Within : ℕ → PlainQuery → ℕ → Type 0
  Within words q n = (words + literals q ≤ n) × (width s q ≡ bounds.width q)

  with_width : (o : Option ℕ) (x k : ℕ) → IfSome o (λ n. x ≤ n) → IfSome o (λ n. (x ≤ n) × (k ≡ k))
  with_width None x k h = tt
  with_width (Some n) x k h = (h, refl)

  -- the words of both sides and of the operator
  sides_sum : (a b : Option ℕ) (x y l l' more least k j k' j' : ℕ) (both : ℕ) → both ≡ l + l' → (k ≡ j → least ≤ more) → IfSome a (λ n. (x + l ≤ n) × (k ≡ j)) → IfSome b (λ n. (y + l' ≤ n) × (k' ≡ j'))
      → IfSome (side_words more a b) (λ n. (x + y + least + both ≤ n) × (k ≡ j))
  sides_sum None b x y l l' more least k j k' j' both e le p q = tt
  sides_sum (Some n) None x y l l' more least k j k' j' both e le p q = tt
  sides_sum (Some n) (Some n') x y l l' more least k j k' j' both e le p q = (omega (arith, p.0, q.0, le p.1, e), p.1)

  of_query : (q : PlainQuery) → IfSome (query_words counts q) (Within (row_words s counts (placed s [] q)) q)
  of_query (Project ks q) =
      subst (λ r. IfSome (select_words counts q) (λ n. (row_words s counts (placed s [] q) + r + literals q ≤ n) × (length ks ≡ length ks))) (sym (placed_bound counts s q []))
      (with_width (select_words counts q) (row_words s counts (placed s [] q) + row_bound counts q + literals q) (length ks) (of_selection q))
  of_query (Union a b) =
      let left = placed_bound counts s a [] in
      let right = placed_bound counts s b [] in
      let x = row_words s counts (placed s [] a) in
      let y = row_words s counts (placed s [] b) in
      subst (λ more. IfSome (query_words counts (Union a b)) (λ n. (x + y + more + literals (Union a b) ≤ n) × (width s a ≡ bounds.width a))) (λ i. sym left i + sym right i)
      (sides_sum (query_words counts a) (query_words counts b) x y (literals a) (literals b) (row_bound counts a + row_bound counts b) (row_bound counts a + row_bound counts b)
      (width s a) (bounds.width a) (width s b) (bounds.width b) (literals (Union a b)) (sum_by-append literal_words (query_terms a) (query_terms b)) (λ e. omega arith) (of_query a) (of_query b))
  of_query (Except a b) =
      let left = placed_bound counts s a [] in
      let right = placed_bound counts s b [] in
      let wide = placed_width s a [] in
      let r = row_bound counts a in
      let r' = row_bound counts b in
      let x = row_words s counts (placed s [] a) in
      let y = row_words s counts (placed s [] b) in
      subst (λ more. IfSome (query_words counts (Except a b)) (λ n. (x + y + more + literals (Except a b) ≤ n) × (width s a ≡ bounds.width a)))
      (λ i. sym left i * sym right i * (2 * sym wide i + 2) + sym left i)
      (sides_sum (query_words counts a) (query_words counts b) x y (literals a) (literals b) (r * r' * (2 * bounds.width a + 2) + r) (r * r' * (2 * width s a + 2) + r)
      (width s a) (bounds.width a) (width s b) (bounds.width b) (literals (Except a b)) (sum_by-append literal_words (query_terms a) (query_terms b))
      (λ e. omega (arith, ap (λ k. r * r' * (2 * k + 2)) e)) (of_query a) (of_query b))
  of_query (Intersect a b) =
      let left = placed_bound counts s a [] in
      let right = placed_bound counts s b [] in
      let wide = placed_width s a [] in
      let r = row_bound counts a in
      let r' = row_bound counts b in
      let x = row_words s counts (placed s [] a) in
      let y = row_words s counts (placed s [] b) in
      subst (λ more. IfSome (query_words counts (Intersect a b)) (λ n. (x + y + more + literals (Intersect a b) ≤ n) × (width s a ≡ bounds.width a)))
      (λ i. sym left i * sym right i * (2 * sym wide i + 1) + 2 * sym left i)
      (sides_sum (query_words counts a) (query_words counts b) x y (literals a) (literals b) (r * r' * (2 * bounds.width a + 1) + 2 * r) (r * r' * (2 * width s a + 1) + 2 * r)
      (width s a) (bounds.width a) (width s b) (bounds.width b) (literals (Intersect a b)) (sum_by-append literal_words (query_terms a) (query_terms b))
      (λ e. omega (arith, ap (λ k. r * r' * (2 * k + 1)) e)) (of_query a) (of_query b))
  of_query _ = tt

  part_of : (o : Option ℕ) (x k j : ℕ) → IfSome o (λ n. (x ≤ n) × (k ≡ j)) → IfSome o (λ n. x ≤ n)
  part_of None x k j h = tt
  part_of (Some n) x k j h = h.0

  pub words_within : (q : PlainQuery) → IfSome (query_words counts q) (λ n. row_words s counts (placed s [] q) + literals q ≤ n)
  words_within q = part_of (query_words counts q) (row_words s counts (placed s [] q) + literals q) (width s q) (bounds.width q) (of_query q)
