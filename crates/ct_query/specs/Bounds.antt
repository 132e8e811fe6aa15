-- Bounds on the words that a statement appends, from row counts alone.
use Rattle.std.specs.Prelude.{ℕ, ◌+◌, ◌*◌, not, ◌&&◌, List, [], ◌∷◌, ◌++◌, length, sum_by, count_by, nat_le, nat_lt, Option, Some, None, option_map, unwrap_or}
use Rattle.ct_word.specs.declared.values.Value.TheVariants as val
use Rattle.ct_word.specs.declared.values.Null.TheVariants as null
use Rattle.ct_word.specs.declared.values.Term.{Term}
use Rattle.ct_word.specs.declared.values.Term.TheVariants as term
use Rattle.ct_word.specs.Condition.{Condition, Conditions, True, False, Same, Not, And, Or, none, also}
use Rattle.ct_query.specs.Plain as plain
use Rattle.ct_query.specs.Plain.{PlainQuery}
use Rattle.ct_query.specs.Plain.{PlainAction}
use Rattle.ct_query.specs.declared.action.Ask.{Ask}
use Rattle.ct_query.specs.declared.action.Ask.TheVariants as ask
use Rattle.ct_query.specs.Plain.{PlainStatement}
use Rattle.ct_query.specs.Size.{row_bound, greatest}

-- the connectives of a run of items
abbrev pub connectives : Conditions → ℕ
connectives none = 0
connectives (also c none) = 0
connectives (also c (also d cs)) = connectives (also d cs) + 1

-- a number for each equality of a condition, summed
abbrev mutual
  pub over_equalities : (Term → Term → ℕ) → Condition → ℕ
  over_equalities f True = 0
  over_equalities f False = 0
  over_equalities f (Same s t) = f s t
  over_equalities f (Not c) = over_equalities f c
  over_equalities f (And cs) = over_all_equalities f cs
  over_equalities f (Or cs) = over_all_equalities f cs

  pub over_all_equalities : (Term → Term → ℕ) → Conditions → ℕ
  over_all_equalities f none = 0
  over_all_equalities f (also c cs) = over_equalities f c + over_all_equalities f cs

-- the equalities, NOTs and connectives of a condition
abbrev mutual
  pub ops : Condition → ℕ
  ops True = 0
  ops False = 0
  ops (Same s t) = 1
  ops (Not c) = ops c + 1
  ops (And cs) = all_ops cs + connectives cs
  ops (Or cs) = all_ops cs + connectives cs

  pub all_ops : Conditions → ℕ
  all_ops none = 0
  all_ops (also c cs) = ops c + all_ops cs

-- the characters of a text: its bytes that begin one
abbrev pub characters : List ℕ → ℕ
characters t = count_by (λ b. not (nat_le 128 b && nat_lt b 192)) t

-- the words of a literal; a column is none
abbrev pub literal_words : Term → ℕ
literal_words (term.Column k) = 0
literal_words (term.Null (null.Named t)) = characters t + 2
literal_words (term.Null (null.Fresh s n)) = 1
literal_words (term.Value (val.Int i)) = 2
literal_words (term.Value (val.Text t)) = characters t + 2
literal_words (term.Value (val.Other k)) = 1

-- the words of the literals of a condition
abbrev pub terms : Condition → ℕ
terms c = over_equalities (λ s t. literal_words s + literal_words t) c

-- one for a column, nothing for another term
abbrev pub column_words : Term → ℕ
column_words (term.Column k) = 1
column_words _ = 0

-- one for each column named in a condition
abbrev pub columns_named : Condition → ℕ
columns_named c = over_equalities (λ s t. column_words s + column_words t) c

-- the counts of the tables of a product, taken from the left
abbrev pub product_counts : (List ℕ → ℕ) → PlainQuery → Option (List ℕ)
product_counts counts (plain.Table t) = Some (counts t ∷ [])
product_counts counts (plain.Product a (plain.Table t)) = option_map (λ ns. ns ++ counts t ∷ []) (product_counts counts a)
product_counts counts _ = None

-- the sum of all counts and of all partial products, the product so far being p
abbrev pub partial_products : ℕ → List ℕ → ℕ
partial_products p [] = 0
partial_products p (n ∷ ns) = n + p * n + partial_products (p * n) ns

-- the columns of a projection or of a set operator
abbrev pub width : PlainQuery → ℕ
width (plain.Project ks q) = length ks
width (plain.Union a b) = width a
width (plain.Except a b) = width a
width (plain.Intersect a b) = width a
width _ = 0

-- the words of a projection of this query, with its literals, where it is a selection of a product of tables
abbrev pub select_words : (List ℕ → ℕ) → PlainQuery → Option ℕ
select_words counts (plain.Select c q) = option_map (λ ns. (ops c + 3) * partial_products 1 ns + terms c) (product_counts counts q)
select_words counts _ = None

-- the words of a set operator, besides those of its sides
abbrev pub operator_words : (List ℕ → ℕ) → PlainQuery → ℕ
operator_words counts (plain.Union a b) = row_bound counts a + row_bound counts b
operator_words counts (plain.Except a b) = row_bound counts a * row_bound counts b * (2 * width a + 2) + row_bound counts a
operator_words counts (plain.Intersect a b) = row_bound counts a * row_bound counts b * (2 * width a + 1) + 2 * row_bound counts a
operator_words counts _ = 0

-- the words of a set operator with those of both sides
abbrev pub side_words : ℕ → Option ℕ → Option ℕ → Option ℕ
side_words more None _ = None
side_words more (Some a) None = None
side_words more (Some a) (Some b) = Some (a + b + more)

-- the words of a query with its literals, where it is a projection of a selection of a product of tables,
-- or a set operator over such queries
abbrev pub query_words : (List ℕ → ℕ) → PlainQuery → Option ℕ
query_words counts (plain.Project ks q) = select_words counts q
query_words counts (plain.Union a b) = side_words (operator_words counts (plain.Union a b)) (query_words counts a) (query_words counts b)
query_words counts (plain.Except a b) = side_words (operator_words counts (plain.Except a b)) (query_words counts a) (query_words counts b)
query_words counts (plain.Intersect a b) = side_words (operator_words counts (plain.Intersect a b)) (query_words counts a) (query_words counts b)
query_words counts _ = None

-- the same number, and the greatest of 64 bits for any other query
abbrev pub nodes : (List ℕ → ℕ) → PlainQuery → ℕ
nodes counts q = unwrap_or (query_words counts q) greatest

-- the words of what is asked of an answer of r rows and k columns, besides the query's
abbrev pub list_words : Ask → ℕ → ℕ → ℕ
list_words ask.Rows r k = 0
list_words ask.Possible r k = r
list_words ask.Certain r k = r * (r * (2 * k + 2) + k + 1)

-- the words of an action's change, with that of its commit, by the counts of rows and of columns
abbrev pub change_words : (List ℕ → ℕ) → (List ℕ → ℕ) → PlainAction → ℕ
change_words counts widths (plain.Create name columns) = sum_by (λ n. characters n + 2) (name ∷ columns) + 6
change_words counts widths (plain.InsertRows name rs p) =
    sum_by (sum_by literal_words) rs + terms p + ops p + sum_by (λ r. length r + 2) rs + characters name + 8
change_words counts widths (plain.InsertQuery name q) = nodes counts q + row_bound counts q * (width q + 2) + characters name + 8
change_words counts widths (plain.Delete name p) =
    terms p + ops p + columns_named p + characters name + 6
change_words counts widths (plain.Update name sets p) =
    sum_by (λ s. literal_words s.1 + column_words s.1 + 2) sets + terms p + ops p + columns_named p + characters name + 8
change_words counts widths (plain.Assert p) = terms p + ops p + 6
change_words counts widths (plain.AssertQuery wanted q) = nodes counts q + 2 * row_bound counts q + 6
change_words counts widths (plain.AssertKey name columns) = counts name * counts name * (2 * widths name + 3) + 6

-- the words of applying an action's change to the tables
abbrev pub applying_words : (List ℕ → ℕ) → PlainAction → ℕ
applying_words counts (plain.Create name columns) = 0
applying_words counts (plain.InsertRows name rs p) = length rs
applying_words counts (plain.InsertQuery name q) = row_bound counts q
applying_words counts (plain.Delete name p) = counts name * (ops p + 2)
applying_words counts (plain.Update name sets p) = counts name * (ops p + 5)
applying_words counts (plain.Assert p) = 1
applying_words counts (plain.AssertQuery wanted q) = 1
applying_words counts (plain.AssertKey name columns) = 1

-- the words of a COMMIT of these actions
abbrev pub commit_words : (List ℕ → ℕ) → List PlainAction → ℕ
commit_words counts [] = 0
commit_words counts (a ∷ actions) = 1 + sum_by (applying_words counts) (a ∷ actions)

-- the words of applying an action once more, for the catalogue; none in a transaction
abbrev pub catalogue_words : (List ℕ → ℕ) → Option (List PlainAction) → PlainAction → ℕ
catalogue_words counts None a = applying_words counts a
catalogue_words counts (Some own) a = 0

-- the words of a COMMIT; none outside a transaction
abbrev pub own_words : (List ℕ → ℕ) → Option (List PlainAction) → ℕ
own_words counts None = 0
own_words counts (Some own) = commit_words counts own

-- the bound on a statement's words; own are the actions of the open transaction, if one is open
abbrev pub bound : (List ℕ → ℕ) → (List ℕ → ℕ) → Option (List PlainAction) → PlainStatement → ℕ
bound counts widths own (plain.Act a) = change_words counts widths a + applying_words counts a + catalogue_words counts own a
bound counts widths own (plain.Asks k columns q) = nodes counts q + list_words k (row_bound counts q) (width q)
bound counts widths own plain.Begin = 0
bound counts widths own plain.Commit = own_words counts own
bound counts widths own plain.Rollback = 0
