use Rattle.std.proofs.Common.{arith}
use Rattle.ct_join.proofs.Filtered.{place_added, places_whole}
use Rattle.ct_join.proofs.finding.find_all.Goals as goal

pub loop-place-preserved : goal.loop-place-preserved
loop-place-preserved c = place_added c.args.found.now.items c.loop-place.found.items c.push.new.self.items c.loop-place.place c.loop-place.invariant c.in_ok-push.ensures.items

pub returns : goal.returns
returns c = places_whole c.args.keys.now c.args.found.now.items c.loop-place.found.items c.loop-place.place (omega (arith, c.loop-place-test.false, c.loop-place.auto.place-end)) c.loop-place.invariant
