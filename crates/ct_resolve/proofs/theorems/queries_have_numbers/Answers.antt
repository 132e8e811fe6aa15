use Rattle.ct_resolve.proofs.Numbered.{numbered}
use Rattle.ct_resolve.proofs.theorems.queries_have_numbers.Goals as goal

pub returns : goal.returns
returns c = numbered
