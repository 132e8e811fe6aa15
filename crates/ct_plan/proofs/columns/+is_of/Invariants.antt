use Rattle.std.proofs.Common.{◌≡◌, map, drop}
use Rattle.ct_word.specs.Condition.{listed}
use Rattle.ct_query.specs.Pred.{condition_of}
use Rattle.ct_plan.specs.Columns.{all_columns_pass, is_column_of}
use Rattle.ct_plan.proofs.columns.+is_of.Given as goal

abbrev pub invariant-are_of-loop-pred : goal.invariant-are_of-loop-pred
invariant-are_of-loop-pred l =
    all_columns_pass (is_column_of l.side l.left) (listed (map condition_of (drop l.pred-index l.preds))) ≡ all_columns_pass (is_column_of l.side l.left) (listed (map condition_of l.preds))
