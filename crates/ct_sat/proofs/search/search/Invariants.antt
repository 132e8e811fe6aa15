use Rattle.std.proofs.Common.{◌-◌}
use Rattle.ct_trail.specs.Standing.{Continues, full, worth_of}
use Rattle.ct_sat.proofs.search.search.Given as goal

abbrev pub invariant-loop-found : goal.invariant-loop-found
invariant-loop-found l = Continues l.fn.board l.board

abbrev pub decreases-loop-found : goal.decreases-loop-found
decreases-loop-found l = full l.board.vars - worth_of l.board
