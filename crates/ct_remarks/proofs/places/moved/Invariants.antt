use Rattle.std.proofs.Common.{◌≡◌}
use Rattle.ct_remarks.specs.Standing.{IsSpot}
use Rattle.ct_remarks.proofs.places.moved.Given as goal

abbrev pub invariant-loop-at : goal.invariant-loop-at
invariant-loop-at l = (l.now.at ≡ l.at) × IsSpot l.script l.now
