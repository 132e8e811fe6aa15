use Rattle.ct_run.proofs.Served.{scripts_served}
use Rattle.ct_run.proofs.theorems.scripts_are_served.Goals as goal

pub returns : goal.returns
returns c = scripts_served
