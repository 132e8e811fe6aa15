use Rattle.ct_workers.proofs.asking.place_held.Goals as goal

pub loop-left-preserved : goal.loop-left-preserved
loop-left-preserved c = (c.lower-place.ensures c.loop-left.place c.in-Some.ensures.0 c.in-Some.ensures.1).placed
