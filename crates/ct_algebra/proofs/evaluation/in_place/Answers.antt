use Rattle.std.{proofs.Common.{◌∙◌, map}, proofs.lemmas.Result.IfOk-weaker}
use Rattle.ct_query.specs.Views.{query_of}
use Rattle.ct_plan.specs.Planned.{planned}
use Rattle.ct_table.specs.Denotes.{heading_of}
use Rattle.ct_algebra.proofs.Planned.{plan_replaces}
use Rattle.ct_algebra.proofs.evaluation.in_place.Goals as goal

pub returns-clause-replaces : goal.returns-clause-replaces
returns-clause-replaces c =
    IfOk-weaker c.plan.result _ _
    (λ p e. plan_replaces (map heading_of c.args.db.now) _ (query_of c.args.q.now) _ (query_of p) c.headings.ensures c.in_ok-copy.ensures e c.requires) c.plan.ensures

pub returns-clause-is_planned : goal.returns-clause-is_planned
returns-clause-is_planned c = IfOk-weaker c.plan.result _ _ (λ p e. e ∙ (λ i. planned (c.headings.ensures i) (c.in_ok-copy.ensures i))) c.plan.ensures
