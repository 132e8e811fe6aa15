use Rattle.std.proofs.Common.{◌≡◌, ◌++◌, map, drop}
use Rattle.ct_word.specs.Condition.{listed}
use Rattle.ct_query.specs.Pred.{condition_of}
use Rattle.ct_plan.specs.Planned.{all_conjuncts}
use Rattle.ct_plan.proofs.parts.+conjuncts.Given as goal

abbrev pub invariant-add_all_conjuncts-loop-pred : goal.invariant-add_all_conjuncts-loop-pred
invariant-add_all_conjuncts-loop-pred l =
    map condition_of l.to.items ++ all_conjuncts (listed (map condition_of (drop l.pred-index l.preds)))
    ≡ map condition_of l.fn.to.items ++ all_conjuncts (listed (map condition_of l.preds))
