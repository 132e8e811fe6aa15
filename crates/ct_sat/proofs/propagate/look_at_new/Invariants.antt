use Rattle.ct_trail.specs.Standing.{Advances}
use Rattle.ct_sat.proofs.propagate.look_at_new.Given as goal

abbrev pub invariant-loop : goal.invariant-loop
invariant-loop l = Advances l.fn.board l.board
