use Rattle.ct_word.specs.WellFormed.{IsWellFormed}
use Rattle.ct_deciding_tests.proofs.tests.near.many.Given as goal

abbrev pub invariant-loop-number : goal.invariant-loop-number
invariant-loop-number l = IsWellFormed l.words.items
