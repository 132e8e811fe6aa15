use Rattle.std.proofs.Common.{arith}
use Rattle.ct_near.proofs.Others.{past_all, past_more}
use Rattle.ct_near.proofs.changing.past_others.Goals as goal

pub loop-pair-preserved : goal.loop-pair-preserved
loop-pair-preserved c =
    past_more c.args.world.now c.as_slice-pair-items.result.now c.loop-pair.pair-index c.pair-item.result c.loop-pair.next c.number_after.result c.max-next.result c.as_slice-pair-items.ensures
    c.loop-pair-test.true c.pair-item.is c.loop-pair.invariant c.number_after.ensures c.max-next.ensures

pub returns : goal.returns
returns c = past_all c.args.world.now c.as_slice-pair-items.result.now c.loop-pair.pair-index c.loop-pair.next c.as_slice-pair-items.ensures (omega (arith, c.loop-pair-test.false)) c.loop-pair.invariant
