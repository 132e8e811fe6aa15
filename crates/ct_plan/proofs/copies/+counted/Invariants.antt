use Rattle.std.proofs.Common.{◌≡◌, map, take}
use Rattle.ct_query.specs.Pred.{condition_of}
use Rattle.ct_plan.specs.Columns.{counted_from}
use Rattle.ct_plan.proofs.copies.+counted.Given as goal

abbrev pub invariant-all_counted-loop-pred : goal.invariant-all_counted-loop-pred
invariant-all_counted-loop-pred l = map condition_of l.copies.items ≡ map (λ p. counted_from l.from (condition_of p)) (take l.pred-index l.preds)
