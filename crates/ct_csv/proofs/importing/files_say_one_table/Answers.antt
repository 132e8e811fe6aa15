use Rattle.ct_csv.proofs.Alone.{says_one}
use Rattle.ct_csv.proofs.importing.files_say_one_table.Goals as goal

pub returns : goal.returns
returns c = says_one
