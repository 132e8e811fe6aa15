use Rattle.ct_trail.proofs.Growth.{length_truths}
use Rattle.ct_trail.proofs.board.Board.model.Goals as goal

pub returns-clause-vars : goal.returns-clause-vars
returns-clause-vars c = length_truths c.args.self.now.vars c.args.self.now.trail
