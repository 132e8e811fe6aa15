use Rattle.ct_trail.proofs.Steps.{advances_then}
use Rattle.ct_sat.proofs.propagate.visit_all.Goals as goal

pub returns-in_err-c-clause-advances : goal.returns-in_err-c-clause-advances
returns-in_err-c-clause-advances c = advances_then c.args.board.now c.loop.board c.visit.new.board c.loop.invariant c.visit.ensures.advances

pub returns-in-Some-clause-advances : goal.returns-in-Some-clause-advances
returns-in-Some-clause-advances c = advances_then c.args.board.now c.loop.board c.visit.new.board c.loop.invariant c.visit.ensures.advances

pub loop-preserved : goal.loop-preserved
loop-preserved c = advances_then c.args.board.now c.loop.board c.visit.new.board c.loop.invariant c.visit.ensures.advances
