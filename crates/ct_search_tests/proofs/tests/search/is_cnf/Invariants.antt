use Rattle.std.{proofs.Common.{◌≡◌, take, true}, specs.List.list_all}
use Rattle.ct_trail.specs.Literal.{is_clause}
use Rattle.ct_search_tests.proofs.tests.search.is_cnf.Given as goal

abbrev pub invariant-loop-clause : goal.invariant-loop-clause
invariant-loop-clause l = list_all (is_clause l.cnf.vars) (take l.clause-index l.cnf.clauses) ≡ true
