use Rattle.std.proofs.Common.{subst}
use Rattle.ct_trail.specs.Standing.{Learned}
use Rattle.ct_sat.proofs.Verdicts.{refuted_learned}
use Rattle.ct_sat.proofs.search.resolve.Goals as goal

pub returns-in-None-clause-turn : goal.returns-in-None-clause-turn
returns-in-None-clause-turn c =
    refuted_learned c.args.board.now c.learn.new.self (subst (λ b. Learned c.args.board.now c.learn.new.self b) c.in-None.is c.in_ok-learn.ensures.ok)
