use Rattle.ct_serve.proofs.Filled.{full_within}
use Rattle.ct_serve.proofs.theorems.full_logs_reach_their_bounds.Goals as goal

pub returns : goal.returns
returns c = full_within
