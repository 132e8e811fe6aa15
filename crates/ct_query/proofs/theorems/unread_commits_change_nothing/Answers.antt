use Rattle.ct_query.proofs.Frame.{same_for_actions, fit_later, same_for_query}
use Rattle.ct_query.proofs.theorems.unread_commits_change_nothing.Goals as goal

pub returns : goal.returns
returns c = record { actions = same_for_actions; changes = fit_later; queries = same_for_query }
