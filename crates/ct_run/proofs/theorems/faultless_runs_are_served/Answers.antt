use Rattle.ct_run.proofs.Served.{faultless_served}
use Rattle.ct_run.proofs.theorems.faultless_runs_are_served.Goals as goal

pub returns : goal.returns
returns c = faultless_served
