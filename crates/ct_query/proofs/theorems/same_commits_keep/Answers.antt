use Rattle.ct_query.proofs.Keeping.{same_throughout}
use Rattle.ct_query.proofs.theorems.same_commits_keep.Goals as goal

pub returns : goal.returns
returns c = same_throughout
