use Rattle.ct_transaction.proofs.Widths.{one_bound}
use Rattle.ct_transaction.proofs.theorems.actions_keep_their_bounds.Goals as goal

pub returns : goal.returns
returns c = one_bound
