use Rattle.ct_constraint.proofs.Laws.{member_tells, key_tells}
use Rattle.ct_constraint.proofs.theorems.tests_tell.Goals as goal

pub returns : goal.returns
returns c = record { members = member_tells; keys = key_tells }
