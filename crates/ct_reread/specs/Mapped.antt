-- A condition with other terms in the place of its own.
use Rattle.ct_word.specs.declared.values.Term.{Term}
use Rattle.ct_word.specs.Condition.{Condition, Conditions, True, False, Same, Not, And, Or, none, also}

-- the condition with what f gives for each of its terms
abbrev mutual
  pub mapped : (Term → Term) → Condition → Condition
  mapped f True = True
  mapped f False = False
  mapped f (Same s t) = Same (f s) (f t)
  mapped f (Not c) = Not (mapped f c)
  mapped f (And cs) = And (all_mapped f cs)
  mapped f (Or cs) = Or (all_mapped f cs)

  -- these conditions so
  pub all_mapped : (Term → Term) → Conditions → Conditions
  all_mapped f none = none
  all_mapped f (also c cs) = also (mapped f c) (all_mapped f cs)
