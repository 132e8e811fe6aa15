use Rattle.ct_certain.proofs.Alone.{same_cells_listed}
use Rattle.ct_certain.proofs.theorems.possible_lists_agree.Goals as goal

pub returns : goal.returns
returns c = same_cells_listed
