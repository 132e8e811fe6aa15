use Rattle.ct_plan.proofs.Law.{replaces}
use Rattle.ct_plan.proofs.theorems.planned_replaces.Goals as goal

pub returns : goal.returns
returns c = replaces
