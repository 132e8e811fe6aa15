use Rattle.ct_csv.proofs.Exact.{refuses_no_file}
use Rattle.ct_csv.proofs.importing.files_are_taken.Goals as goal

pub returns : goal.returns
returns c = refuses_no_file
