-- Which changes a statement can write.
use Rattle.std.specs.Prelude.{Bool, true, false, ◌&&◌}
use Rattle.std.specs.List.{list_all}
use Rattle.ct_word.specs.declared.values.Value.TheVariants as val
use Rattle.ct_word.specs.declared.values.Null.TheVariants as null
use Rattle.ct_word.specs.declared.values.Term.{Term}
use Rattle.ct_word.specs.declared.values.Term.TheVariants as term
use Rattle.ct_word.specs.Condition.{Condition, Conditions, True, False, Same, Not, And, Or, none, also}
use Rattle.ct_word.specs.Change.{PlainRow, PlainChange, Create, Insert, Delete, Update, Assert}
pub use Rattle.ct_word.specs.Names.{is_letter, is_digit, is_word, keywords, is_name}

-- whether a term can be written: no other value, and a named null that is spelled as a word
abbrev pub is_writable_term : Term → Bool
is_writable_term (term.Column k) = true
is_writable_term (term.Null (null.Named t)) = is_word t
is_writable_term (term.Null (null.Fresh s n)) = true
is_writable_term (term.Value (val.Int i)) = true
is_writable_term (term.Value (val.Text t)) = true
is_writable_term (term.Value (val.Other k)) = false

-- whether each term of a condition can be written
abbrev mutual
  pub is_writable_condition : Condition → Bool
  is_writable_condition True = true
  is_writable_condition False = true
  is_writable_condition (Same s t) = is_writable_term s && is_writable_term t
  is_writable_condition (Not c) = is_writable_condition c
  is_writable_condition (And cs) = are_writable_conditions cs
  is_writable_condition (Or cs) = are_writable_conditions cs

  pub are_writable_conditions : Conditions → Bool
  are_writable_conditions none = true
  are_writable_conditions (also c cs) = is_writable_condition c && are_writable_conditions cs

-- whether a row can be written
abbrev pub is_writable_row : PlainRow → Bool
is_writable_row r = list_all is_writable_term r.cells && is_writable_condition r.condition

-- whether a change can be written
abbrev pub is_writable : PlainChange → Bool
is_writable (Create name columns) = is_name name && list_all is_name columns
is_writable (Insert name rows) = is_name name && list_all is_writable_row rows
is_writable (Delete name c) = is_name name && is_writable_condition c
is_writable (Update name sets c) = is_name name && list_all (λ s. is_writable_term s.1) sets && is_writable_condition c
is_writable (Assert c) = is_writable_condition c
