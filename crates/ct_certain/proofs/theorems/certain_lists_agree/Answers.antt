use Rattle.ct_certain.proofs.Alone.{same_tuples_listed}
use Rattle.ct_certain.proofs.theorems.certain_lists_agree.Goals as goal

pub returns : goal.returns
returns c = same_tuples_listed
