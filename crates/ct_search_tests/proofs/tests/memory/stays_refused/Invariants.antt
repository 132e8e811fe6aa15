use Rattle.std.proofs.Common.{◌≡◌}
use Rattle.ct_search_tests.proofs.tests.memory.stays_refused.Given as goal

abbrev pub invariant-loop-clause : goal.invariant-loop-clause
invariant-loop-clause l = l.asked.solver.vars ≡ l.cnf.vars
