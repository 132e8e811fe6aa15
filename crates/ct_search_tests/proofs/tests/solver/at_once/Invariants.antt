use Rattle.std.proofs.Common.{◌≡◌}
use Rattle.ct_search_tests.proofs.tests.solver.at_once.Given as goal

abbrev pub invariant-loop-clause : goal.invariant-loop-clause
invariant-loop-clause l = l.solver.vars ≡ l.cnf.vars
