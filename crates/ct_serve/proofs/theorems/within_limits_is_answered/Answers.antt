use Rattle.ct_serve.proofs.Complete.{lawful_complete}
use Rattle.ct_serve.proofs.theorems.within_limits_is_answered.Goals as goal

pub returns : goal.returns
returns c = lawful_complete
