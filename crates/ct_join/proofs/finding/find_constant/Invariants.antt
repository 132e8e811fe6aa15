use Rattle.std.proofs.Common.{◌-◌}
use Rattle.ct_join.proofs.Walk.{IsWalk}
use Rattle.ct_join.proofs.finding.find_constant.Given as goal

abbrev pub invariant-loop-at : goal.invariant-loop-at
invariant-loop-at l = IsWalk l.number l.keys l.nulls l.fn.found.items l.found.items l.at l.constant l.index

abbrev pub decreases-loop-at : goal.decreases-loop-at
decreases-loop-at l = l.end - l.at
