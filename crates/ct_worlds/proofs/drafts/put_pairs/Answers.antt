use Rattle.ct_worlds.proofs.Drawing.{pairs_more}
use Rattle.ct_worlds.proofs.drafts.put_pairs.Goals as goal

pub loop-pair-preserved : goal.loop-pair-preserved
loop-pair-preserved c =
    let pairs = c.args.pairs.now in
    let at = c.loop-pair.pair-index in
    let pair = c.pair-item.result in
    let first = c.args.draft.now in
    let old = c.loop-pair.draft in
    let new = c.put_pair.new.draft in
    let put = c.in_ok-put_pair.ensures in
    record {
      values = pairs_more (λ p. p.1) pairs at pair first.values.keys old.values.keys new.values.keys c.loop-pair-test.true c.pair-item.is c.loop-pair.invariant.values put.values;
      nulls = pairs_more (λ p. p.0) pairs at pair first.nulls.keys old.nulls.keys new.nulls.keys c.loop-pair-test.true c.pair-item.is c.loop-pair.invariant.nulls put.nulls;
    }
