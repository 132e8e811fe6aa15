-- A predicate read as a condition.
use Rattle.ct_word.specs.Condition.{Condition, Conditions, True, False, Same, Not, And, Or, none, also}
use Rattle.ct_query.specs.declared.query.Pred as pred
use Rattle.ct_query.specs.declared.query.Pred.{Pred, Row_of-Pred, end_of-Pred, more_of-Pred}

-- the condition that a predicate is
abbrev mutual
  pub condition_of : Pred → Condition
  condition_of pred.True = True
  condition_of pred.False = False
  condition_of (pred.Same s t) = Same s t
  condition_of (pred.Not' p c) = Not (condition_of c)
  condition_of (pred.And' shape cs) = And (conditions_of cs)
  condition_of (pred.Or' shape cs) = Or (conditions_of cs)

  pub conditions_of : {m : _} → Row_of-Pred m → Conditions
  conditions_of end_of-Pred = none
  conditions_of (more_of-Pred c rest) = also (condition_of c) (conditions_of rest)
