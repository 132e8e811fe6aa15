use Rattle.std.proofs.lemmas.Result.{IfOk-weaker}
use Rattle.ct_rewrite.{proofs.Openings.joint_stands, proofs.Sizes.joint_no_larger, proofs.Literals.gathered_literals}
use Rattle.ct_rewrite.proofs.builder.Builder.gathered.Goals as goal

pub returns-in_default-clause-truth : goal.returns-in_default-clause-truth
returns-in_default-clause-truth c =
    IfOk-weaker c.place.result _ _
    (λ k. joint_stands c.args.connective c.args.self.now c.place.new.self c.args.children.items _ _ k c.from_vec.ensures c.joint.ensures)
    c.place.ensures.value

pub returns-in_default-clause-size : goal.returns-in_default-clause-size
returns-in_default-clause-size c =
    IfOk-weaker c.place.result _ _
    (λ k. joint_no_larger c.args.connective c.args.self.now c.place.new.self c.args.children.items _ _ k c.from_vec.ensures c.joint.ensures)
    c.place.ensures.value

pub place-requires-clause-no_literals : goal.place-requires-clause-no_literals
place-requires-clause-no_literals c =
    gathered_literals c.args.connective c.args.self.now c.args.children.items _ _ c.from_vec.ensures c.joint.ensures c.requires.no_literals
