use Rattle.std.proofs.Common.{◌≡◌, ◌≤◌, ◌+◌, map, drop}
use Rattle.ct_word.specs.Condition.{And, listed}
use Rattle.ct_query.{specs.Pred.condition_of, specs.Size.{greatest, stopped}}
use Rattle.ct_query.specs.Bounds as spec
use Rattle.ct_query.proofs.weighing.+terms.Given as goal

abbrev pub invariant-terms_of_run-loop-pred : goal.invariant-terms_of_run-loop-pred
invariant-terms_of_run-loop-pred l = record {
  rest : stopped (l.sum + spec.terms (And (listed (map condition_of (drop l.pred-index l.preds))))) ≡ stopped (spec.terms (And (listed (map condition_of l.preds))));
  fits : l.sum ≤ greatest;
}
