-- How many nulls an action draws.
use Rattle.std.specs.Prelude.{ℕ, sum_by, count_by, Bool, true, false}
use Rattle.ct_word.specs.declared.values.Term.{Term}
use Rattle.ct_word.specs.declared.values.Term.TheVariants as term
use Rattle.ct_word.specs.declared.values.Null.TheVariants as null
use Rattle.ct_query.specs.Plain.{PlainAction}
use Rattle.ct_query.specs.Plain as plain

-- whether a term is a fresh null
abbrev pub is_fresh : Term → Bool
is_fresh (term.Null (null.Fresh s n)) = true
is_fresh _ = false

-- how many numbers of fresh nulls an action draws
abbrev pub drawn : PlainAction → ℕ
drawn (plain.InsertRows name rs p) = sum_by (count_by is_fresh) rs
drawn _ = 0
