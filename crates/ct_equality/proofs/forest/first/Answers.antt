use Rattle.ct_equality.proofs.Forests.{way_on}
use Rattle.ct_equality.proofs.forest.first.Goals as goal

pub loop-parents-preserved : goal.loop-parents-preserved
loop-parents-preserved c = way_on c.args.parents.now c.loop-parents.parents c.args.place c.loop-parents.at c.loop-parents.invariant c.loop-parents-test.true
