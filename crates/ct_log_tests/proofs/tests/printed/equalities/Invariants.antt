use Rattle.ct_word.specs.WellFormed.{IsWellFormed}
use Rattle.ct_log_tests.proofs.tests.printed.equalities.Given as goal

abbrev pub invariant-loop-column : goal.invariant-loop-column
invariant-loop-column l = IsWellFormed l.words.items

abbrev pub invariant-loop-pair : goal.invariant-loop-pair
invariant-loop-pair l = IsWellFormed l.words.items
