-- Moving conditions leaves the tables and what is made of them.
use Rattle.std.proofs.Common.{◌≡◌, ℕ, ◌+◌, ◌*◌, List, [], ◌∷◌, ◌++◌, map, refl, sym, ap, ◌∙◌}
use Rattle.std.specs.Prelude.{filter}
use Rattle.ct_word.specs.Condition.{Condition}
use Rattle.ct_query.specs.declared.schema.Heading.{Heading}
use Rattle.ct_query.{specs.Plain.{PlainQuery, Table, Select, Project, Product, Union, Except, Intersect}, specs.Fits.width, specs.Size.row_bound}
use Rattle.ct_query.{specs.Patterns.{Patterns, query_pattern, picked}, specs.Rows.joins}
use Rattle.ct_plan.{specs.Columns.{columns_of, is_of, is_across, counted_from}, specs.Planned.{taken_apart, selected, placed}, specs.Replaces.bare}
use Rattle.ct_plan.specs.declared.sides.Side.TheVariants as side

selected_bare : (cs : List Condition) (q : PlainQuery) → bare (selected cs q) ≡ bare q
selected_bare [] q = refl
selected_bare (c ∷ []) q = refl
selected_bare (c ∷ d ∷ cs) q = refl

module _ (s : List Heading) where
  pub placed_bare : (q : PlainQuery) (cs : List Condition) → bare (placed s cs q) ≡ bare q
  placed_bare (Table t) cs = selected_bare cs (Table t)
  placed_bare (Select c q) cs = selected_bare cs (placed s (taken_apart c q) q) ∙ placed_bare q (taken_apart c q)
  placed_bare (Project ks q) cs = selected_bare cs (Project ks (placed s [] q)) ∙ ap (Project ks) (placed_bare q [])
  placed_bare (Product a b) cs =
      let lefts = filter (is_of side.Left (columns_of s a)) cs in
      let rights = map (counted_from (columns_of s a)) (filter (is_of side.Right (columns_of s a)) cs) in
      let left = placed_bare a lefts in
      let right = placed_bare b rights in
      selected_bare (filter (is_across (columns_of s a)) cs) (Product (placed s lefts a) (placed s rights b)) ∙ (λ i. Product (left i) (right i))
  placed_bare (Union a b) cs =
      let left = placed_bare a [] in let right = placed_bare b [] in
      selected_bare cs (Union (placed s [] a) (placed s [] b)) ∙ (λ i. Union (left i) (right i))
  placed_bare (Except a b) cs =
      let left = placed_bare a [] in let right = placed_bare b [] in
      selected_bare cs (Except (placed s [] a) (placed s [] b)) ∙ (λ i. Except (left i) (right i))
  placed_bare (Intersect a b) cs =
      let left = placed_bare a [] in let right = placed_bare b [] in
      selected_bare cs (Intersect (placed s [] a) (placed s [] b)) ∙ (λ i. Intersect (left i) (right i))

  width_bare : (q : PlainQuery) → width s (bare q) ≡ width s q
  width_bare (Table t) = refl
  width_bare (Select c q) = width_bare q
  width_bare (Project ks q) = refl
  width_bare (Product a b) = let left = width_bare a in let right = width_bare b in λ i. left i + right i
  width_bare (Union a b) = width_bare a
  width_bare (Except a b) = width_bare a
  width_bare (Intersect a b) = width_bare a

  pub placed_width : (q : PlainQuery) (cs : List Condition) → width s (placed s cs q) ≡ width s q
  placed_width q cs = sym (width_bare (placed s cs q)) ∙ ap (width s) (placed_bare q cs) ∙ width_bare q

module _ (counts : List ℕ → ℕ) where
  rows_bare : (q : PlainQuery) → row_bound counts (bare q) ≡ row_bound counts q
  rows_bare (Table t) = refl
  rows_bare (Select c q) = rows_bare q
  rows_bare (Project ks q) = rows_bare q
  rows_bare (Product a b) = let left = rows_bare a in let right = rows_bare b in λ i. left i * right i
  rows_bare (Union a b) = let left = rows_bare a in let right = rows_bare b in λ i. left i + right i
  rows_bare (Except a b) = rows_bare a
  rows_bare (Intersect a b) = rows_bare a

  pub placed_bound : (s : List Heading) (q : PlainQuery) (cs : List Condition) → row_bound counts (placed s cs q) ≡ row_bound counts q
  placed_bound s q cs = sym (rows_bare (placed s cs q)) ∙ ap (row_bound counts) (placed_bare s q cs) ∙ rows_bare q

module _ (lines : Patterns) where
  pattern_bare : (q : PlainQuery) → query_pattern lines (bare q) ≡ query_pattern lines q
  pattern_bare (Table t) = refl
  pattern_bare (Select c q) = pattern_bare q
  pattern_bare (Project ks q) = ap (map (picked ks)) (pattern_bare q)
  pattern_bare (Product a b) = let left = pattern_bare a in let right = pattern_bare b in λ i. joins (left i) (right i)
  pattern_bare (Union a b) = let left = pattern_bare a in let right = pattern_bare b in λ i. left i ++ right i
  pattern_bare (Except a b) = pattern_bare a
  pattern_bare (Intersect a b) = pattern_bare a

  pub placed_pattern : (s : List Heading) (q : PlainQuery) (cs : List Condition) → query_pattern lines (placed s cs q) ≡ query_pattern lines q
  placed_pattern s q cs = sym (pattern_bare (placed s cs q)) ∙ ap (query_pattern lines) (placed_bare s q cs) ∙ pattern_bare q
