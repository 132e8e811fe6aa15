use Rattle.ct_run.proofs.Certified.{certificate_accepted}
use Rattle.ct_run.proofs.theorems.certificates_are_accepted.Goals as goal

pub returns : goal.returns
returns c = certificate_accepted
