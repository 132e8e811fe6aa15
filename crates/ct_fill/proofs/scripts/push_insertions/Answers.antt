use Rattle.ct_fill.proofs.Rows.{one_more}
use Rattle.ct_fill.proofs.scripts.push_insertions.Goals as goal

pub loop-before-preserved : goal.loop-before-preserved
loop-before-preserved c = one_more c.args.session c.loop-before.before c.args.list.now.items c.loop-before.invariant c.in_ok-push_insertion.ensures
