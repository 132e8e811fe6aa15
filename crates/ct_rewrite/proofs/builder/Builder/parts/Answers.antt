use Rattle.ct_rewrite.{proofs.Brought.children_brought, proofs.Literals.children_literals}
use Rattle.ct_rewrite.proofs.builder.Builder.parts.Goals as goal

pub returns-in-Some-clause-brings : goal.returns-in-Some-clause-brings
returns-in-Some-clause-brings c =
    rw c.in_ok-from_slice.ensures.items
    (children_brought c.args.connective c.args.self.now c.args.form _ _ c.requires c.node-node.ensures.value c.node-node.ensures.below c.node-node.ensures.proper c.in-Some.ensures)

pub returns-in-Some-clause-no_literals : goal.returns-in-Some-clause-no_literals
returns-in-Some-clause-no_literals c =
    rw c.in_ok-from_slice.ensures.items
    (λ h. children_literals c.args.connective _ _ c.in-Some.ensures c.args.self.now c.node-node.ensures.no_literals)
