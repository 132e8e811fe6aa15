-- A query has no more rows than its bound says.
use Rattle.std.{proofs.Common.{◌≡◌, ℕ, ◌*◌, ◌≤◌, Bool, List, [], ◌∷◌, ◌++◌, length, map, refl, ◌∙◌, arith, length-append}, proofs.lemmas.List.length-map}
use Rattle.std.{specs.Prelude.{not, filter, flat_map}, proofs.lemmas.Nat.mul-le, proofs.lemmas.List.Filters.length-filter_both}
use Rattle.ct_word.specs.Value.{World, cell_at}
use Rattle.ct_query.{specs.Plain.PlainQuery, specs.Database.{Database, tuples_of}, specs.Rows.rows, specs.Size.row_bound}
use Rattle.ct_query.specs.Plain as plain

filter_within : {X : Type 0} (p : X → Bool) (xs : List X) (n : ℕ) → length xs ≤ n → length (filter p xs) ≤ n
filter_within p xs n h = omega (arith, h, length-filter_both p (λ x. not (p x)) (λ x. refl) xs)

pairs_count : {X : Type 0} (right left : List (List X)) → length (flat_map (λ l. map (λ r. l ++ r) right) left) ≡ length left * length right
pairs_count right [] = omega arith
pairs_count right (l ∷ left) =
    length-append (map (λ r. l ++ r) right) (flat_map (λ l. map (λ r. l ++ r) right) left)
    ∙ omega (arith, length-map right (λ r. l ++ r), pairs_count right left)

module _ (v : World) (w : Database) (counts : List ℕ → ℕ) (within : (t : List ℕ) → length (tuples_of w t) ≤ counts t) where
  -- where no table has more tuples than its count
  pub rows_bounded : (q : PlainQuery) → length (rows v q w) ≤ row_bound counts q
  rows_bounded (plain.Table t) = within t
  rows_bounded (plain.Select c q) = filter_within _ _ _ (rows_bounded q)
  rows_bounded (plain.Project ks q) = omega (arith, length-map (rows v q w) (λ r. map (cell_at r) ks), rows_bounded q)
  rows_bounded (plain.Product a b) =
      omega (arith, pairs_count (rows v b w) (rows v a w), mul-le (length (rows v a w)) (length (rows v b w)) (row_bound counts a) (row_bound counts b) (rows_bounded a) (rows_bounded b))
  rows_bounded (plain.Union a b) = omega (arith, length-append (rows v a w) (rows v b w), rows_bounded a, rows_bounded b)
  rows_bounded (plain.Except a b) = filter_within _ _ _ (rows_bounded a)
  rows_bounded (plain.Intersect a b) = filter_within _ _ _ (rows_bounded a)
