use Rattle.ct_trail.proofs.Steps.{advances_then}
use Rattle.ct_sat.proofs.propagate.propagate.Goals as goal

pub returns-in_err-c-2-clause-advances : goal.returns-in_err-c-2-clause-advances
returns-in_err-c-2-clause-advances c = advances_then c.args.board.now c.loop.board c.visit_all.new.board c.loop.invariant c.visit_all.ensures.advances

pub returns-in-Some-2-clause-advances : goal.returns-in-Some-2-clause-advances
returns-in-Some-2-clause-advances c = advances_then c.args.board.now c.loop.board c.visit_all.new.board c.loop.invariant c.visit_all.ensures.advances

pub loop-preserved : goal.loop-preserved
loop-preserved c = advances_then c.args.board.now c.loop.board c.visit_all.new.board c.loop.invariant c.visit_all.ensures.advances

pub returns-in_default-2-clause-advances : goal.returns-in_default-2-clause-advances
returns-in_default-2-clause-advances c = advances_then c.args.board.now c.loop.board c.visit_all.new.board c.loop.invariant c.visit_all.ensures.advances
