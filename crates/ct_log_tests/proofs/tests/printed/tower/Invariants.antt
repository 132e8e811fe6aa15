use Rattle.ct_word.specs.WellFormed.{IsWellFormed}
use Rattle.ct_log_tests.proofs.tests.printed.tower.Given as goal

abbrev pub invariant-loop : goal.invariant-loop
invariant-loop l = IsWellFormed l.words.items
