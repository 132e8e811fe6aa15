use Rattle.ct_csv.proofs.ExportFile.{exported}
use Rattle.ct_csv.proofs.exporting.forms_are_exported.Goals as goal

pub returns : goal.returns
returns c = exported
