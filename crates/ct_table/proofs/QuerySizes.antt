-- The size of a query grows with the counts of rows of the tables.
use Rattle.std.{proofs.Common.{ℕ, ◌+◌, ◌*◌, ◌≤◌, List, [], ◌∷◌, map, max, arith}, specs.List.fold, proofs.lemmas.Nat.mul-le}
use Rattle.ct_query.{specs.Plain.PlainQuery, specs.Size.{row_bound, number, parts, size}}
use Rattle.ct_query.specs.Plain as plain

add_le : (a b m n : ℕ) → a ≤ m → b ≤ n → a + b ≤ m + n
add_le a b m n p q = omega arith

max_le : (a b m n : ℕ) → a ≤ m → b ≤ n → max a b ≤ max m n
max_le a b m n p q = omega arith

module _ (f g : List ℕ → ℕ) (each : (t : List ℕ) → f t ≤ g t) where
  pub row_bound_grows : (q : PlainQuery) → row_bound f q ≤ row_bound g q
  row_bound_grows (plain.Table t) = each t
  row_bound_grows (plain.Select c q) = row_bound_grows q
  row_bound_grows (plain.Project ks q) = row_bound_grows q
  row_bound_grows (plain.Product a b) = mul-le (row_bound f a) (row_bound f b) (row_bound g a) (row_bound g b) (row_bound_grows a) (row_bound_grows b)
  row_bound_grows (plain.Union a b) = add_le (row_bound f a) (row_bound f b) (row_bound g a) (row_bound g b) (row_bound_grows a) (row_bound_grows b)
  row_bound_grows (plain.Except a b) = row_bound_grows a
  row_bound_grows (plain.Intersect a b) = row_bound_grows a

  pairs_grow : (a b : PlainQuery) → row_bound f a * row_bound f b ≤ row_bound g a * row_bound g b
  pairs_grow a b = mul-le (row_bound f a) (row_bound f b) (row_bound g a) (row_bound g b) (row_bound_grows a) (row_bound_grows b)

  pub number_grows : (q : PlainQuery) → number f q ≤ number g q
  number_grows (plain.Table t) = each t
  number_grows (plain.Select c q) = row_bound_grows q
  number_grows (plain.Project ks q) = row_bound_grows q
  number_grows (plain.Product a b) = pairs_grow a b
  number_grows (plain.Union a b) = row_bound_grows (plain.Union a b)
  number_grows (plain.Except a b) = pairs_grow a b
  number_grows (plain.Intersect a b) = pairs_grow a b

  greatest_grows : (m n : ℕ) (qs : List PlainQuery) → m ≤ n → fold max m (map (number f) qs) ≤ fold max n (map (number g) qs)
  greatest_grows m n [] le = le
  greatest_grows m n (q ∷ qs) le = greatest_grows (max m (number f q)) (max n (number g q)) qs (max_le m (number f q) n (number g q) le (number_grows q))

  -- more rows in the tables, no smaller size
  pub size_grows : (q : PlainQuery) → size f q ≤ size g q
  size_grows q = greatest_grows 0 0 (parts q) (omega arith)
