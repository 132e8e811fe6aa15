use Rattle.ct_word.specs.WellFormed.{IsWellFormed}
use Rattle.ct_search_tests.proofs.tests.equality.with_numbers.Given as goal

abbrev pub invariant-loop-k : goal.invariant-loop-k
invariant-loop-k l = IsWellFormed l.words.items
