use Rattle.ct_worlds.proofs.Drawing.{put_then, then_put}
use Rattle.ct_worlds.proofs.drafts.put_pair.Goals as goal

pub returns-clause-values : goal.returns-clause-values
returns-clause-values c =
    put_then c.args.draft.now.values.keys c.value_number.new.draft.values.keys c.null_number.new.draft.values.keys c.in_ok-clone.field-0 c.args.pair.now.1
    c.in_ok-number.ensures.values c.in_ok-null_number.ensures.values c.in_ok-clone.ensures.cases

pub returns-clause-nulls : goal.returns-clause-nulls
returns-clause-nulls c =
    then_put c.args.draft.now.nulls.keys c.value_number.new.draft.nulls.keys c.null_number.new.draft.nulls.keys c.in_ok-clone-2.field-0 c.args.pair.now.0
    c.value_number.ensures.nulls c.in_ok-null_number.ensures.nulls c.in_ok-clone-2.ensures.cases
