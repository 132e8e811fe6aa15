use Rattle.ct_reread.proofs.Terms.{one_token}
use Rattle.ct_reread.proofs.theorems.terms_are_read_back.Goals as goal

pub returns : goal.returns
returns c = one_token
