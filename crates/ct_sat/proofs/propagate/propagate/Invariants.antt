use Rattle.ct_trail.specs.Standing.{Advances}
use Rattle.ct_sat.proofs.propagate.propagate.Given as goal

abbrev pub invariant-loop : goal.invariant-loop
invariant-loop l = Advances l.fn.board l.board
