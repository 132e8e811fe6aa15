use Rattle.std.{proofs.Common.{List, [], subst}, specs.Prelude.IsTrue, specs.List.list_all}
use Rattle.ct_rewrite.{specs.declared.answer.Node.Node, specs.Nodes.read_nodes, specs.Rules.has_no_literals, proofs.Nodes.node_read}
use Rattle.ct_rewrite.proofs.Literals.{node_literals}
use Rattle.ct_rewrite.proofs.builder.Builder.node.Goals as goal

pub returns-clause-value : goal.returns-clause-value
returns-clause-value c =
    (node_read _ c.args.self.now _ c.args.position _ c.self.invariant.0 c.self.view_is c.as_slice.ensures.keys c.requires c.index-as_slice-position.is).value

pub returns-clause-below : goal.returns-clause-below
returns-clause-below c =
    (node_read _ c.args.self.now _ c.args.position _ c.self.invariant.0 c.self.view_is c.as_slice.ensures.keys c.requires c.index-as_slice-position.is).below

pub returns-clause-no_literals : goal.returns-clause-no_literals
returns-clause-no_literals c =
    node_literals c.args.self.now c.args.position _
    (node_read _ c.args.self.now _ c.args.position _ c.self.invariant.0 c.self.view_is c.as_slice.ensures.keys c.requires c.index-as_slice-position.is).value
    (subst (λ (ns : List Node). IsTrue (list_all has_no_literals (read_nodes [] ns))) c.self.view_is c.self.invariant.2)
