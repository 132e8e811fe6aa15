use Rattle.ct_trail.proofs.Steps.{continues_then}
use Rattle.ct_sat.proofs.search.advance.Goals as goal

pub returns-clause-continues : goal.returns-clause-continues
returns-clause-continues c = continues_then c.args.board.now c.decide.new.board c.judge.new.board c.decide.ensures.advances.continues c.judge.ensures.continues
