use Rattle.std.{proofs.Common.{◌≡◌, map, take}, specs.Prelude.filter}
use Rattle.ct_query.specs.Pred.{condition_of}
use Rattle.ct_plan.specs.Columns.{is_of, counted_from}
use Rattle.ct_plan.specs.declared.sides.Side.TheVariants as side
use Rattle.ct_plan.proofs.parts.left_part.Given as goal

abbrev pub invariant-loop-pred : goal.invariant-loop-pred
invariant-loop-pred l = map condition_of l.part.items ≡ map (counted_from 0) (filter (is_of side.Left l.left) (map condition_of (take l.pred-index l.preds)))
