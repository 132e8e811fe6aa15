use Rattle.ct_sat.proofs.Moves.{decides_is}
use Rattle.ct_sat.proofs.search.decide.Goals as goal

pub returns-clause-decides : goal.returns-clause-decides
returns-clause-decides c = decides_is c.args.board.now c.decide.new.self _ c.in_ok-decided.decided c.in_ok-decided.ensures.told c.in_ok-decided.ensures.is
