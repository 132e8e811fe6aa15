use Rattle.std.proofs.Common.{arith}
use Rattle.ct_plan.{specs.Columns.{is_of, counted_from}, proofs.Runs.{part_more, part_same}}
use Rattle.ct_plan.specs.declared.sides.Side.TheVariants as side
use Rattle.ct_plan.proofs.parts.left_part.Goals as goal

pub loop-pred-preserved : goal.loop-pred-preserved
loop-pred-preserved c =
    part_more (is_of side.Left c.args.left) (counted_from 0) c.args.preds.now c.loop-pred.pred-index _ _ _ _ c.loop-pred-test.true c.pred-item.is c.is_of-wanted.ensures c.loop-pred.invariant c.in_ok-add_if.ensures

pub returns : goal.returns
returns c = part_same (is_of side.Left c.args.left) c.args.preds.now c.loop-pred.pred-index _ (omega (arith, c.loop-pred-test.false)) c.loop-pred.invariant
