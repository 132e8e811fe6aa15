use Rattle.ct_near.proofs.{Entries.{asked_more, chosen_more}}
use Rattle.ct_near.proofs.relating.chosen.Goals as goal

pub loop-number-preserved : goal.loop-number-preserved
loop-number-preserved c =
    asked_more c.args.places.now c.args.is_asked.now c.loop-number.number c.loop-number.chosen.items c.choose.new.places.items c.flag.result c.loop-number-test.true c.in_ok-choose.ensures
    c.flag.ensures c.loop-number.invariant

pub loop-place-preserved : goal.loop-place-preserved
loop-place-preserved c =
    chosen_more c.args.places.now c.args.is_asked.now c.args.own.now c.loop-place.place-index c.loop-place.chosen.items c.choose-in-loop-place.new.places.items c.loop-place-test.true
    c.in_ok-choose-2.ensures c.loop-place.invariant
