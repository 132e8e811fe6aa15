use Rattle.ct_rewrite.proofs.Openings.{child_settles}
use Rattle.ct_rewrite.proofs.builder.Builder.clashes.Goals as goal

pub returns-then-clash : goal.returns-then-clash
returns-then-clash c _ =
    child_settles c.args.connective c.args.self.now c.args.children.now c.loop-other.other-index 0 c.args.child _ _ c.loop-other-test.true c.node.ensures.value
    c.node-in-loop-other.ensures.value (c.clash.ensures c.if-clash.true)
