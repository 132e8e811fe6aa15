use Rattle.ct_trail.proofs.Steps.{continues_then}
use Rattle.ct_sat.proofs.search.turn.Goals as goal

pub returns-in-Some-clause-continues : goal.returns-in-Some-clause-continues
returns-in-Some-clause-continues c = continues_then c.args.board.now c.propagate.new.board c.resolve.new.board c.propagate.ensures.advances.continues c.resolve.ensures.continues

pub returns-in-None-clause-continues : goal.returns-in-None-clause-continues
returns-in-None-clause-continues c = continues_then c.args.board.now c.propagate.new.board c.advance.new.board c.propagate.ensures.advances.continues c.advance.ensures.continues
