use Rattle.ct_word.specs.WellFormed.{IsWellFormed}
use Rattle.ct_log_tests.proofs.tests.printed.add_or.Given as goal

abbrev pub invariant-loop-place : goal.invariant-loop-place
invariant-loop-place l = IsWellFormed l.words.items

abbrev pub invariant-loop-kind : goal.invariant-loop-kind
invariant-loop-kind l = IsWellFormed l.words.items
