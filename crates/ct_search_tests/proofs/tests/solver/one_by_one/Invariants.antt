use Rattle.std.proofs.Common.{◌≡◌}
use Rattle.ct_search_tests.proofs.tests.solver.one_by_one.Given as goal

abbrev pub invariant-loop-k : goal.invariant-loop-k
invariant-loop-k l = l.solver.vars ≡ l.cnf.vars
