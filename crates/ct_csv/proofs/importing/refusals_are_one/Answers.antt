use Rattle.ct_csv.proofs.Exact.{refuses_for_one}
use Rattle.ct_csv.proofs.importing.refusals_are_one.Goals as goal

pub returns : goal.returns
returns c = refuses_for_one
