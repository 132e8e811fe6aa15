use Rattle.ct_csv.proofs.Alone.{takes_exports}
use Rattle.ct_csv.proofs.importing.exports_are_taken.Goals as goal

pub returns : goal.returns
returns c = takes_exports
