use Rattle.ct_near.proofs.{Entries.others_more}
use Rattle.ct_near.proofs.indexing.others.Goals as goal

pub loop-place-preserved : goal.loop-place-preserved
loop-place-preserved c =
    others_more c.args.places.now c.args.one c.loop-place.place-index c.loop-place.others.items c.choose.new.places.items c.loop-place-test.true c.in_ok-choose.ensures c.loop-place.invariant
