use Rattle.ct_worlds.proofs.Drawing.{adds_numbered}
use Rattle.ct_worlds.proofs.drafts.put_other.Goals as goal

pub returns-clause-values : goal.returns-clause-values
returns-clause-values c = adds_numbered c.args.k c.args.draft.now.values.keys c.put_value.new.draft.values.keys c.requires c.in_ok-number.ensures.values
