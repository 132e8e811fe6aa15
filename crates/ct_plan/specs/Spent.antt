-- How many words the evaluation of a query takes, operator by operator.
use Rattle.std.specs.Prelude.{◌+◌, ◌*◌, ℕ, List, sum_by}
use Rattle.ct_query.specs.declared.schema.Heading.{Heading}
use Rattle.ct_query.specs.Plain.{PlainQuery, Table, Select, Project, Product, Union, Except, Intersect}
use Rattle.ct_query.specs.Bounds.{ops, literal_words}
use Rattle.ct_query.specs.Fits.{width}
use Rattle.ct_query.specs.Size.{row_bound}
use Rattle.ct_query.specs.Terms.{query_terms}

-- the words that the operators of a query make of the rows of its parts, by the counts of its tables
abbrev pub row_words : List Heading → (List ℕ → ℕ) → PlainQuery → ℕ
row_words s counts (Table t) = 0
row_words s counts (Select c q) = row_words s counts q + row_bound counts q * (ops c + 1)
row_words s counts (Project ks q) = row_words s counts q + row_bound counts q
row_words s counts (Product a b) = row_words s counts a + row_words s counts b + row_bound counts a * row_bound counts b
row_words s counts (Union a b) = row_words s counts a + row_words s counts b + (row_bound counts a + row_bound counts b)
row_words s counts (Except a b) =
    row_words s counts a + row_words s counts b + (row_bound counts a * row_bound counts b * (2 * width s a + 2) + row_bound counts a)
row_words s counts (Intersect a b) =
    row_words s counts a + row_words s counts b + (row_bound counts a * row_bound counts b * (2 * width s a + 1) + 2 * row_bound counts a)

-- the words of the literals of a query's predicates
abbrev pub literals : PlainQuery → ℕ
literals q = sum_by literal_words (query_terms q)
