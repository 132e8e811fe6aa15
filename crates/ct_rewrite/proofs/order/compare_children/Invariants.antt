use Rattle.ct_rewrite.proofs.order.compare_children.Given as goal

abbrev pub decreases-loop-a : goal.decreases-loop-a
decreases-loop-a l = l.a
