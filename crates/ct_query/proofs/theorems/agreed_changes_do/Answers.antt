use Rattle.ct_query.proofs.Committed.{commit_does}
use Rattle.ct_query.proofs.theorems.agreed_changes_do.Goals as goal

pub returns : goal.returns
returns c = commit_does
