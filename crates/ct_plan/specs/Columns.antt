-- Which side of a product a condition is about, by its columns.
use Rattle.std.specs.Prelude.{ℕ, ◌-◌, Bool, true, not, ◌&&◌, ◌||◌, List, nat_lt, nat_le}
use Rattle.ct_word.specs.declared.values.Term.{Term}
use Rattle.ct_word.specs.declared.values.Term.TheVariants as term
use Rattle.ct_word.specs.Condition.{Condition, Conditions, True, False, Same, Not, And, Or, none, also}
use Rattle.ct_query.specs.declared.schema.Heading.{Heading}
use Rattle.ct_query.specs.Plain.{PlainQuery}
use Rattle.ct_query.specs.Fits.{width}
use Rattle.ct_query.specs.Size.{stopped, greatest}
use Rattle.ct_plan.specs.declared.sides.Side.{Side}
use Rattle.ct_plan.specs.declared.sides.Side.TheVariants as side

-- how many columns a query answers, which stops at the greatest number of 64 bits
abbrev pub columns_of : List Heading → PlainQuery → ℕ
columns_of s q = stopped (width s q)

-- a column is one of this part of a product whose left part has n columns; where that number has stopped, no column is
-- known to be one of the right part
abbrev pub is_column_of : Side → ℕ → ℕ → Bool
is_column_of side.Left n k = nat_lt k n
is_column_of side.Right n k = nat_le n k && nat_lt n greatest

-- a term is no column, or one that passes
abbrev pub column_passes : (ℕ → Bool) → Term → Bool
column_passes f (term.Column k) = f k
column_passes f (term.Null u) = true
column_passes f (term.Value x) = true

-- each column of a condition passes
abbrev mutual
  pub columns_pass : (ℕ → Bool) → Condition → Bool
  columns_pass f True = true
  columns_pass f False = true
  columns_pass f (Same s t) = column_passes f s && column_passes f t
  columns_pass f (Not c) = columns_pass f c
  columns_pass f (And cs) = all_columns_pass f cs
  columns_pass f (Or cs) = all_columns_pass f cs

  pub all_columns_pass : (ℕ → Bool) → Conditions → Bool
  all_columns_pass f none = true
  all_columns_pass f (also c cs) = columns_pass f c && all_columns_pass f cs

-- each column of a condition is one of this part; a condition without columns is of both
abbrev pub is_of : Side → ℕ → Condition → Bool
is_of part n c = columns_pass (is_column_of part n) c

-- there are columns of both parts
abbrev pub is_across : ℕ → Condition → Bool
is_across n c = not (is_of side.Left n c || is_of side.Right n c)

-- a term with a column counted from the n-th one on
abbrev pub term_from : ℕ → Term → Term
term_from n (term.Column k) = term.Column (k - n)
term_from n (term.Null u) = term.Null u
term_from n (term.Value x) = term.Value x

-- a condition of the right part with its columns counted from there
abbrev mutual
  pub counted_from : ℕ → Condition → Condition
  counted_from n True = True
  counted_from n False = False
  counted_from n (Same s t) = Same (term_from n s) (term_from n t)
  counted_from n (Not c) = Not (counted_from n c)
  counted_from n (And cs) = And (all_counted_from n cs)
  counted_from n (Or cs) = Or (all_counted_from n cs)

  pub all_counted_from : ℕ → Conditions → Conditions
  all_counted_from n none = none
  all_counted_from n (also c cs) = also (counted_from n c) (all_counted_from n cs)
