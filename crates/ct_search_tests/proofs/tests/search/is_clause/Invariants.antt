use Rattle.std.proofs.Common.{◌≡◌, take, true}
use Rattle.ct_trail.specs.Literal.{is_clause}
use Rattle.ct_search_tests.proofs.tests.search.is_clause.Given as goal

abbrev pub invariant-loop-l : goal.invariant-loop-l
invariant-loop-l l = is_clause l.vars (take l.l-index l.clause) ≡ true
