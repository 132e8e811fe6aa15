use Rattle.ct_constraint.proofs.Laws.{member_of_set, key_of_set}
use Rattle.ct_constraint.proofs.theorems.tests_see_sets.Goals as goal

pub returns : goal.returns
returns c = record { members = member_of_set; keys = λ columns a b same. key_of_set a b same columns }
