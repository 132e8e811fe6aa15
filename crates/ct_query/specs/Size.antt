-- Sizes of queries, from row counts alone.
use Rattle.std.specs.Prelude.{ℕ, ◌+◌, ◌*◌, min, max, List, [], ◌∷◌, ◌++◌, map, if◌then◌else◌}
use Rattle.std.specs.List.{fold}
use Rattle.ct_word.specs.Value.{same_text}
use Rattle.ct_query.specs.declared.schema.Count.{Count}
use Rattle.ct_query.specs.Plain as plain
use Rattle.ct_query.specs.Plain.{PlainQuery}

-- the rows of the first table with this name; none for a table without a count
abbrev pub rows_in : List Count → List ℕ → ℕ
rows_in [] t = 0
rows_in (c ∷ cs) t = if same_text c.name t then c.rows else rows_in cs t

-- a bound on the rows of a query
abbrev pub row_bound : (List ℕ → ℕ) → PlainQuery → ℕ
row_bound counts (plain.Table t) = counts t
row_bound counts (plain.Select c q) = row_bound counts q
row_bound counts (plain.Project ks q) = row_bound counts q
row_bound counts (plain.Product a b) = row_bound counts a * row_bound counts b
row_bound counts (plain.Union a b) = row_bound counts a + row_bound counts b
row_bound counts (plain.Except a b) = row_bound counts a
row_bound counts (plain.Intersect a b) = row_bound counts a

-- how many rows, or pairs of rows, a query itself goes through
abbrev pub number : (List ℕ → ℕ) → PlainQuery → ℕ
number counts (plain.Table t) = counts t
number counts (plain.Select c q) = row_bound counts q
number counts (plain.Project ks q) = row_bound counts q
number counts (plain.Product a b) = row_bound counts a * row_bound counts b
number counts (plain.Union a b) = row_bound counts a + row_bound counts b
number counts (plain.Except a b) = row_bound counts a * row_bound counts b
number counts (plain.Intersect a b) = row_bound counts a * row_bound counts b

-- a query and all parts of it
abbrev pub parts : PlainQuery → List PlainQuery
parts (plain.Table t) = plain.Table t ∷ []
parts (plain.Select c q) = plain.Select c q ∷ parts q
parts (plain.Project ks q) = plain.Project ks q ∷ parts q
parts (plain.Product a b) = plain.Product a b ∷ parts a ++ parts b
parts (plain.Union a b) = plain.Union a b ∷ parts a ++ parts b
parts (plain.Except a b) = plain.Except a b ∷ parts a ++ parts b
parts (plain.Intersect a b) = plain.Intersect a b ∷ parts a ++ parts b

-- the greatest number of all parts
abbrev pub size : (List ℕ → ℕ) → PlainQuery → ℕ
size counts q = fold max 0 (map (number counts) (parts q))

-- the greatest number of 64 bits
abbrev pub greatest : ℕ
greatest = 18446744073709551615

-- a number that stops at the greatest of 64 bits
abbrev pub stopped : ℕ → ℕ
stopped n = min n greatest
