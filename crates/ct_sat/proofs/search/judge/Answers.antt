use Rattle.std.proofs.Common.{◌∙◌, subst}
use Rattle.ct_trail.specs.{declared.scan.Scan.Scan, Standing.{truths_now, ScanOf}}
use Rattle.ct_sat.proofs.Verdicts.{model_of}
use Rattle.ct_sat.proofs.search.judge.Goals as goal

pub returns-in_ok-model-in-Satisfied-clause-turn : goal.returns-in_ok-model-in-Satisfied-clause-turn
returns-in_ok-model-in-Satisfied-clause-turn c =
    model_of c.args.board.now c.from_vec.result (c.from_vec.ensures ∙ c.in_ok-model-in-Satisfied.ensures.model) c.model.ensures.vars
    (subst (λ (x : Scan). ScanOf (truths_now c.args.board.now) c.args.board.now.entries c.args.board.now.top x) c.in-Satisfied.is c.in_ok-scan.ensures)
