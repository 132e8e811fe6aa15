use Rattle.ct_rewrite.proofs.Openings.{child_below}
use Rattle.ct_rewrite.proofs.order.compare_children.Goals as goal

pub loop-a-smaller : goal.loop-a-smaller
loop-a-smaller c = child_below c.loop-a.a _ c.in-Some-Some.left.now _ c.in-Some-Some.ensures c.children.ensures c.in-Some.ensures
