use Rattle.ct_word.specs.WellFormed.{IsWellFormed}
use Rattle.ct_log_tests.proofs.tests.printed.log_of.Given as goal

abbrev pub invariant-loop-word : goal.invariant-loop-word
invariant-loop-word l = IsWellFormed l.log.items
