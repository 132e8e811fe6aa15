-- Runs of predicates.
use Rattle.std.specs.Prelude.{ℕ, ◌+◌, ◌-◌, List, length, sum_by}
use Rattle.ct_word.specs.declared.connectives.Connective.{Connective}
use Rattle.ct_word.specs.declared.connectives.Connective.TheVariants as connective
use Rattle.ct_query.specs.declared.query.Pred.{Pred, And, Or}
use Rattle.ct_query.specs.Pred.{condition_of}
use Rattle.ct_condition.specs.Rows.{new_words, words_on}
use Rattle.ct_query.specs.Bounds.{ops}

-- the words that a run is put by, at most: those of its items, and one for each connective between them
abbrev pub run_words : List ℕ → List ℕ → List Pred → ℕ
run_words words cells ps = sum_by (λ p. words_on words cells (condition_of p)) ps + (length ps - 1)

-- the words that the terms of a run are put by, at most
abbrev pub run_new_words : List ℕ → List ℕ → List Pred → ℕ
run_new_words words cells ps = sum_by (λ p. new_words words cells (condition_of p)) ps

-- the equalities, Nots and connectives of a run: those of its items, and one connective between them
abbrev pub run_ops : List Pred → ℕ
run_ops ps = sum_by (λ p. ops (condition_of p)) ps + (length ps - 1)

-- the predicate of a list under a connective
abbrev pub under : Connective → List Pred → Pred
under connective.And ps = And ps
under connective.Or ps = Or ps
