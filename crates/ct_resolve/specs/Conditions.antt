-- Conditions with positions for the names of columns.
use Rattle.std.specs.Prelude.{List, [], ◌∷◌, Option, Some, None, Ok}
use Rattle.ct_word.specs.declared.values.Value.TheVariants as val
use Rattle.ct_word.specs.declared.values.Null.TheVariants as null
use Rattle.ct_word.specs.declared.values.Term.{Term}
use Rattle.ct_word.specs.declared.values.Term.TheVariants as term
use Rattle.ct_word.specs.Condition as plain
use Rattle.ct_word.specs.Condition.{listed}
use Rattle.ct_query.specs.declared.schema.Heading.{Heading}
use Rattle.ct_parse.specs.declared.tree.Term.TheVariants as written
use Rattle.ct_parse.specs.declared.tree.Term as parsed
use Rattle.ct_parse.specs.declared.tree.Comparison.{Comparison}
use Rattle.ct_parse.specs.declared.tree.Comparison.TheVariants as comparison
use Rattle.ct_parse.specs.declared.tree.Factor as factor
use Rattle.ct_parse.specs.declared.tree.Factor.{Factor, Row_of-Factor, end_of-Factor, more_of-Factor, Row_of-Condition, end_of-Condition, more_of-Condition}
use Rattle.ct_parse.specs.declared.tree.Conjunction.{Conjunction}
use Rattle.ct_parse.specs.declared.tree.Condition.{Condition, Condition', Row_of-Conjunction, end_of-Conjunction, more_of-Conjunction}
use Rattle.ct_resolve.specs.Found.{Found, and_then, in_front, each}
use Rattle.ct_resolve.specs.Names.{column_at}

-- a written term, with a position for a column
abbrev pub term_at : List Heading → parsed.Term → Found Term
term_at scope (written.Number i) = Ok (term.Value (val.Int i))
term_at scope (written.Text t) = Ok (term.Value (val.Text t))
term_at scope (written.Null n) = Ok (term.Null (null.Named n))
term_at scope (written.Column c) = and_then (column_at scope c) (λ k. Ok (term.Column k))

-- an equality, or that it is not so
abbrev pub compared : Comparison → Term → Term → plain.Condition
compared comparison.Equal s t = plain.Same s t
compared comparison.Unequal s t = plain.Not (plain.Same s t)

-- a comparison, its left term first
abbrev pub comparison_of : Comparison → Found Term → Found Term → Found plain.Condition
comparison_of o s t = and_then s (λ a. and_then t (λ b. Ok (compared o a b)))

-- that a condition does not hold
abbrev pub negated : Found plain.Condition → Found plain.Condition
negated c = and_then c (λ d. Ok (plain.Not d))

-- a run of AND: one condition stands alone, none is True
abbrev pub and_of : List plain.Condition → plain.Condition
and_of [] = plain.True
and_of (c ∷ []) = c
and_of (c ∷ d ∷ cs) = plain.And (listed (c ∷ d ∷ cs))

-- a run of OR: one condition stands alone, none is False
abbrev pub or_of : List plain.Condition → plain.Condition
or_of [] = plain.False
or_of (c ∷ []) = c
or_of (c ∷ d ∷ cs) = plain.Or (listed (c ∷ d ∷ cs))

-- the run of AND of what is found
abbrev pub all_found : Found (List plain.Condition) → Found plain.Condition
all_found cs = and_then cs (λ ds. Ok (and_of ds))

-- the run of OR of what is found
abbrev pub any_found : Found (List plain.Condition) → Found plain.Condition
any_found cs = and_then cs (λ ds. Ok (or_of ds))

-- a condition with positions, and its parts; the rows are the lists in the tree
abbrev mutual
  pub factor_at : List Heading → Factor → Found plain.Condition
  factor_at scope (factor.Not' shape (more_of-Factor f rest)) = negated (factor_at scope f)
  factor_at scope (factor.Nested' shape (more_of-Condition c rest)) = condition_at scope c
  factor_at scope factor.True = Ok plain.True
  factor_at scope factor.False = Ok plain.False
  factor_at scope (factor.Compare s o t) = comparison_of o (term_at scope s) (term_at scope t)

  pub factors_at : {n : _} → List Heading → Row_of-Factor n → Found (List plain.Condition)
  factors_at scope end_of-Factor = Ok []
  factors_at scope (more_of-Factor f rest) = in_front (factor_at scope f) (factors_at scope rest)

  pub conjunctions_at : {n : _} → List Heading → Row_of-Conjunction n → Found (List plain.Condition)
  conjunctions_at scope end_of-Conjunction = Ok []
  conjunctions_at scope (more_of-Conjunction f shape fs rest) =
      in_front (all_found (in_front (factor_at scope f) (factors_at scope fs))) (conjunctions_at scope rest)

  pub condition_at : List Heading → Condition → Found plain.Condition
  condition_at scope (Condition' f shape fs shapes rest) =
      any_found (in_front (all_found (in_front (factor_at scope f) (factors_at scope fs))) (conjunctions_at scope rest))

-- factors joined by AND
abbrev pub conjunction_at : List Heading → Conjunction → Found plain.Condition
conjunction_at scope c = all_found (in_front (factor_at scope c.first) (each (factor_at scope) c.rest))

-- a condition that may be left out, and then is True
abbrev pub condition_or_true : List Heading → Option Condition → Found plain.Condition
condition_or_true scope None = Ok plain.True
condition_or_true scope (Some c) = condition_at scope c
