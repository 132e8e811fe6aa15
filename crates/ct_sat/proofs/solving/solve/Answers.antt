use Rattle.std.proofs.Common.{◌≡◌, ap, ◌∙◌, sym, subst, List}
use Rattle.ct_trail.specs.{declared.log.Rup.Rup, Log.learned_in}
use Rattle.ct_sat.{specs.Log.AnswersFound, specs.Verdict.IsRefutation, proofs.Verdicts.{refuted, modelled}}
use Rattle.ct_sat.specs.declared.verdict.Found.{Found}
use Rattle.ct_sat.proofs.solving.solve.Goals as goal

pub returns-in-Model : goal.returns-in-Model
returns-in-Model c =
    modelled c.args.cnf.now c.in_ok-solver.solver c.step.new.self c.in-Model.model c.in_ok-solver.ensures c.step.ensures.learns
    (subst (λ (f : Found). AnswersFound c.step.new.self f) c.in-Model.is c.in_ok-model.ensures.found)

pub returns-in_ok-steps-in-Refuted : goal.returns-in_ok-steps-in-Refuted
returns-in_ok-steps-in-Refuted c =
    let steps : c.from_vec.result ≡ learned_in c.step.new.self.entries = c.from_vec.ensures ∙ c.in_ok-steps-in-Refuted.ensures ∙ ap learned_in c.into_log.ensures.entries in
    subst (λ (x : List Rup). IsRefutation c.args.cnf.now x) (sym steps)
    (refuted c.args.cnf.now c.in_ok-solver.solver c.step.new.self c.in_ok-solver.ensures c.step.ensures.learns c.into_log.ensures.log
    (subst (λ (f : Found). AnswersFound c.step.new.self f) c.in-Refuted.is c.in_ok-model.ensures.found))
