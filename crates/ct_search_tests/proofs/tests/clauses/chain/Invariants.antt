use Rattle.ct_word.specs.WellFormed.{IsWellFormed}
use Rattle.ct_search_tests.proofs.tests.clauses.chain.Given as goal

abbrev pub invariant-loop-number : goal.invariant-loop-number
invariant-loop-number l = IsWellFormed l.words.items

abbrev pub invariant-loop-k : goal.invariant-loop-k
invariant-loop-k l = IsWellFormed l.words.items

abbrev pub invariant-loop-k-2 : goal.invariant-loop-k-2
invariant-loop-k-2 l = IsWellFormed l.words.items
