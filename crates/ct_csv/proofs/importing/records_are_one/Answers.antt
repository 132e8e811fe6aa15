use Rattle.ct_csv.proofs.Exact.{have_one_list}
use Rattle.ct_csv.proofs.importing.records_are_one.Goals as goal

pub returns : goal.returns
returns c = have_one_list
