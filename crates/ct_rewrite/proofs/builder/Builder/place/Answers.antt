use Rattle.std.{proofs.Common.{List, length, sym, subst, ap, ◌∙◌}, specs.Prelude.IsTrue}
use Rattle.ct_rewrite.{specs.declared.answer.Node.Node, specs.Nodes.{stands_over, node_value}, specs.Rules.has_no_literals, proofs.Literals.inserted_literals}
use Rattle.ct_rewrite.proofs.Building.{inserted_ordered, inserted_proper, inserted_value}
use Rattle.ct_rewrite.proofs.builder.Builder.place.Goals as goal

pub invariant_of-self-2 : goal.invariant_of-self-2
invariant_of-self-2 c =
    let over = subst (λ (ns : List Node). IsTrue (stands_over (length ns) c.args.node)) (sym c.self.view_is) c.requires.ordered in
    let parts = subst (λ (ns : List Node). IsTrue (has_no_literals (node_value ns c.args.node))) (sym c.self.view_is) c.requires.no_literals in
    rw c.in_ok-position.ensures.keys
    (inserted_ordered _ c.args.node c.self.invariant.0 over, inserted_proper _ c.args.node c.self.invariant.1 c.requires.proper, inserted_literals _ c.args.node c.self.invariant.2 parts)

pub returns-clause-value : goal.returns-clause-value
returns-clause-value c =
    let over = subst (λ (ns : List Node). IsTrue (stands_over (length ns) c.args.node)) (sym c.self.view_is) c.requires.ordered in
    inserted_value _ c.args.node c.self.invariant.0 over _ _ c.in_ok-position.ensures.keys c.in_ok-position.ensures.stored
    ∙ ap (λ (ns : List Node). node_value ns c.args.node) c.self.view_is
