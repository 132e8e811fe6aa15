use Rattle.std.{proofs.Common.{List, subst}, specs.List.IsDistinct}
use Rattle.ct_rewrite.{specs.declared.answer.Node.Node, specs.Nodes.same_node, proofs.Building.distinct_nodes}
use Rattle.ct_rewrite.proofs.builder.Builder.into_nodes.Goals as goal

pub returns-in_err-nodes-clause-distinct : goal.returns-in_err-nodes-clause-distinct
returns-in_err-nodes-clause-distinct c =
    subst (λ (ns : List Node). IsDistinct same_node ns) c.self.view_is (distinct_nodes _ c.into_iter.ensures.into_iter_gives.3)

pub returns-clause-distinct : goal.returns-clause-distinct
returns-clause-distinct c =
    subst (λ (ns : List Node). IsDistinct same_node ns) c.self.view_is (distinct_nodes _ c.into_iter.ensures.into_iter_gives.3)
