-- Sums over the tables of a product, and over the sides of a set operator, as they stop.
use Rattle.std.{proofs.Common.{◌≡◌, ℕ, ◌+◌, ◌*◌, List, [], ◌∷◌, ◌++◌, refl, ap, ◌∙◌, arith}, specs.Prelude.{Option, Some, None, option_map, unwrap_or, IfSome}}
use Rattle.ct_query.{specs.Plain.{PlainQuery, Table, Product}, specs.Size.{row_bound, greatest, stopped}, specs.Bounds.{product_counts, partial_products}}

-- the product of p and these numbers
abbrev pub product_from : ℕ → List ℕ → ℕ
product_from p [] = p
product_from p (n ∷ ns) = product_from (p * n) ns

-- one more number on the right, in the product and in the sum of all partial products
pub product_last : (p : ℕ) (ns : List ℕ) (n : ℕ) → product_from p (ns ++ n ∷ []) ≡ product_from p ns * n
product_last p [] n = refl
product_last p (m ∷ ns) n = product_last (p * m) ns n

pub partial_last : (p : ℕ) (ns : List ℕ) (n : ℕ) → partial_products p (ns ++ n ∷ []) ≡ partial_products p ns + (n + product_from p ns * n)
partial_last p [] n = grind arith
partial_last p (m ∷ ns) n = ap (λ s. m + p * m + s) (partial_last (p * m) ns n) ∙ omega arith

product_rows : (o : Option (List ℕ)) (r n : ℕ) → IfSome o (λ ns. product_from 1 ns ≡ r) → IfSome (option_map (λ ns. ns ++ n ∷ []) o) (λ ns. product_from 1 ns ≡ r * n)
product_rows None r n h = tt
product_rows (Some ns) r n h = product_last 1 ns n ∙ ap (λ m. m * n) h

rows_of_product : (counts : List ℕ → ℕ) (q : PlainQuery) → IfSome (product_counts counts q) (λ ns. product_from 1 ns ≡ row_bound counts q)
rows_of_product counts (Table t) = omega arith
rows_of_product counts (Product a (Table t)) = product_rows (product_counts counts a) (row_bound counts a) (counts t) (rows_of_product counts a)
rows_of_product counts _ = tt

sum_last : (o : Option (List ℕ)) (r n : ℕ) → IfSome o (λ ns. product_from 1 ns ≡ r)
    → stopped (unwrap_or (option_map (partial_products 1) (option_map (λ ns. ns ++ n ∷ []) o)) greatest)
    ≡ stopped (stopped (stopped (unwrap_or (option_map (partial_products 1) o) greatest) + n) + stopped (r * n))
sum_last None r n h = omega arith
sum_last (Some ns) r n h = ap stopped (partial_last 1 ns n ∙ ap (λ m. partial_products 1 ns + (n + m * n)) h) ∙ omega arith

-- one more table on the right
pub last_product : (counts : List ℕ → ℕ) (a : PlainQuery) (t : List ℕ)
    → stopped (unwrap_or (option_map (partial_products 1) (product_counts counts (Product a (Table t)))) greatest)
    ≡ stopped (stopped (stopped (unwrap_or (option_map (partial_products 1) (product_counts counts a)) greatest) + counts t) + stopped (row_bound counts a * counts t))
last_product counts a t = sum_last (product_counts counts a) (row_bound counts a) (counts t) (rows_of_product counts a)
