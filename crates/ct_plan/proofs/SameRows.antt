-- A query that conditions were moved down in has the same list of tuples.
use Rattle.std.proofs.Common.{◌≡◌, ℕ, true, not, ◌&&◌, List, [], ◌∷◌, ◌++◌, map, length, refl, sym, ap, ◌∙◌}
use Rattle.std.{specs.Prelude.{filter, All}}
use Rattle.std.proofs.lemmas.List.Elements.{filter_agree, recursion_from_All, All-weaker}
use Rattle.ct_word.{specs.declared.values.Value.Value, specs.Value.{World, cell_at}, specs.Condition.{Condition, And, holds, listed}}
use Rattle.ct_query.specs.declared.schema.Heading.{Heading}
use Rattle.ct_query.{specs.Plain.{PlainQuery, Table, Select, Project, Product, Union, Except, Intersect}, specs.Fits.{Fits, width}, specs.Size.stopped}
use Rattle.ct_query.{specs.Database.{Database, has_tuple}, specs.Rows.{rows, joins}}
use Rattle.ct_plan.{specs.Columns.{columns_of, is_of, is_across, counted_from}, specs.Planned.{taken_apart, selected, placed}, specs.Over.HasSchema}
use Rattle.ct_plan.{proofs.Conjuncts.{passes, holds_listed, holds_alone, apart_hold, passes_parts}, proofs.Joined.filter_joins, proofs.Wide.rows_wide}
use Rattle.ct_plan.specs.declared.sides.Side.TheVariants as side

all_pass : {A : Type 0} (xs : List A) → filter (λ x. true) xs ≡ xs
all_pass [] = refl
all_pass (x ∷ xs) = ap (λ l. x ∷ l) (all_pass xs)

module _ (s : List Heading) (v : World) (w : Database) (has : HasSchema s w) where
  selected_rows : (cs : List Condition) (q : PlainQuery) → rows v (selected cs q) w ≡ filter (passes v cs) (rows v q w)
  selected_rows [] q = sym (all_pass (rows v q w))
  selected_rows (c ∷ []) q = filter_agree (λ r. holds v r c) (passes v (c ∷ [])) (λ r. sym (holds_alone v c r)) (rows v q w)
  selected_rows (c ∷ d ∷ cs) q =
      filter_agree (λ r. holds v r (And (listed (c ∷ d ∷ cs)))) (passes v (c ∷ d ∷ cs)) (λ r. holds_listed v (c ∷ d ∷ cs) r) (rows v q w)

  -- a product's conditions on its sides and across
  parts_joined : (n w' : ℕ) → w' ≡ stopped n → (cs : List Condition) (ls rs : List (List Value)) → All (λ l. length l ≡ n) ls
      → filter (passes v cs) (joins ls rs)
      ≡ filter (passes v (filter (is_across w') cs)) (joins (filter (passes v (filter (is_of side.Left w') cs)) ls) (filter (passes v (map (counted_from w') (filter (is_of side.Right w') cs))) rs))
  parts_joined n w' stops cs ls rs wide =
      let f = passes v (filter (is_of side.Left w') cs) in
      let g = passes v (map (counted_from w') (filter (is_of side.Right w') cs)) in
      let h = passes v (filter (is_across w') cs) in
      filter_joins (passes v cs) h f g rs ls
      (recursion_from_All (λ l. (r : List Value) → passes v cs (l ++ r) ≡ (f l && (g r && h (l ++ r)))) ls
      (All-weaker (λ l. length l ≡ n) (λ l. (r : List Value) → passes v cs (l ++ r) ≡ (f l && (g r && h (l ++ r)))) (λ l e r. passes_parts v n w' stops l r e cs) ls wide))

  -- no condition comes
  pub unmoved : (p q : PlainQuery) → rows v p w ≡ filter (passes v []) (rows v q w) → rows v p w ≡ rows v q w
  unmoved p q e = e ∙ all_pass (rows v q w)

  pub placed_rows : (q : PlainQuery) (cs : List Condition) → Fits s q → rows v (placed s cs q) w ≡ filter (passes v cs) (rows v q w)
  placed_rows (Table t) cs fit = selected_rows cs (Table t)
  placed_rows (Select c q) cs fit =
      selected_rows cs (placed s (taken_apart c q) q)
      ∙ ap (filter (passes v cs)) (placed_rows q (taken_apart c q) fit.1 ∙ filter_agree (passes v (taken_apart c q)) (λ r. holds v r c) (apart_hold v c q) (rows v q w))
  placed_rows (Project ks q) cs fit =
      selected_rows cs (Project ks (placed s [] q)) ∙ ap (λ l. filter (passes v cs) (map (λ r. map (cell_at r) ks) l)) (unmoved (placed s [] q) q (placed_rows q [] fit.1))
  placed_rows (Product a b) cs fit =
      let n = columns_of s a in
      let left = placed_rows a (filter (is_of side.Left n) cs) fit.0 in
      let right = placed_rows b (map (counted_from n) (filter (is_of side.Right n) cs)) fit.1 in
      selected_rows (filter (is_across n) cs) (Product (placed s (filter (is_of side.Left n) cs) a) (placed s (map (counted_from n) (filter (is_of side.Right n) cs)) b))
      ∙ (λ i. filter (passes v (filter (is_across n) cs)) (joins (left i) (right i)))
      ∙ sym (parts_joined (width s a) n refl cs (rows v a w) (rows v b w) (rows_wide s v w has a fit.0))
  placed_rows (Union a b) cs fit =
      let left = unmoved (placed s [] a) a (placed_rows a [] fit.1) in let right = unmoved (placed s [] b) b (placed_rows b [] fit.2) in
      selected_rows cs (Union (placed s [] a) (placed s [] b)) ∙ (λ i. filter (passes v cs) (left i ++ right i))
  placed_rows (Except a b) cs fit =
      let left = unmoved (placed s [] a) a (placed_rows a [] fit.1) in let right = unmoved (placed s [] b) b (placed_rows b [] fit.2) in
      selected_rows cs (Except (placed s [] a) (placed s [] b)) ∙ (λ i. filter (passes v cs) (filter (λ r. not (has_tuple (right i) r)) (left i)))
  placed_rows (Intersect a b) cs fit =
      let left = unmoved (placed s [] a) a (placed_rows a [] fit.1) in let right = unmoved (placed s [] b) b (placed_rows b [] fit.2) in
      selected_rows cs (Intersect (placed s [] a) (placed s [] b)) ∙ (λ i. filter (passes v cs) (filter (has_tuple (right i)) (left i)))
