use Rattle.std.proofs.Common.{◌∙◌}
use Rattle.ct_worlds.proofs.Drawing.{pairs_on}
use Rattle.ct_worlds.proofs.drafts.pairs_of.Goals as goal

pub loop-at-preserved : goal.loop-at-preserved
loop-at-preserved c =
    let more = pairs_on c.as_slice-nulls.result.now c.args.draft.now.values.keys c.loop-at.at c.index-nulls-at.result c.in_ok-clone.field-0 c.in_ok-value.value c.loop-at.pairs.items c.push.new.self.items
    c.loop-at-test.true (c.in_ok-clone.ensures.cases ∙ c.index-nulls-at.is) c.in_ok-push.ensures.items c.loop-at.invariant.nulls c.loop-at.invariant.values c.in_ok-value.ensures in
    record { nulls = more.0; values = more.1 }
