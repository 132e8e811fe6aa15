use Rattle.std.proofs.Common.{subst}
use Rattle.ct_trail.{specs.Log.IsLog, proofs.Steps.standing_log}
use Rattle.ct_sat.specs.Log.{State}
use Rattle.ct_sat.proofs.solver.Solver.log.Goals as goal

pub returns-clause-log : goal.returns-clause-log
returns-clause-log c =
    subst (λ (s : State). IsLog s.vars s.entries) c.self.view_is (standing_log c.self.inside.board c.entries.ensures.standing)
