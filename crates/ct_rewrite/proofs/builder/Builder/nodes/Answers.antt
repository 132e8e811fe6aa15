use Rattle.std.{proofs.Common.{List, subst}, specs.List.IsDistinct}
use Rattle.ct_rewrite.{specs.declared.answer.Node.Node, specs.Nodes.same_node, proofs.Building.distinct_nodes}
use Rattle.ct_rewrite.proofs.builder.Builder.nodes.Goals as goal

pub returns-clause-distinct : goal.returns-clause-distinct
returns-clause-distinct c = subst (λ (ns : List Node). IsDistinct same_node ns) c.self.view_is (distinct_nodes _ c.as_slice.ensures.unique)
