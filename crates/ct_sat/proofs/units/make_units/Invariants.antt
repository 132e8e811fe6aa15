use Rattle.ct_trail.specs.Standing.{Advances}
use Rattle.ct_sat.proofs.units.make_units.Given as goal

abbrev pub invariant-loop-i : goal.invariant-loop-i
invariant-loop-i l = Advances l.fn.board l.board
