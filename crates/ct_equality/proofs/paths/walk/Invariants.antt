use Rattle.std.proofs.Common.{◌<◌, length, get_or}
use Rattle.ct_equality.specs.Assigned.{IsWalk}
use Rattle.ct_equality.proofs.paths.walk.Given as goal

abbrev pub invariant-loop-at : goal.invariant-loop-at
invariant-loop-at l = record {
  within : l.at < length l.tree.places.items;
  walk : IsWalk l.atoms l.truth (get_or l.tree.places.items l.from 0) (get_or l.tree.places.items l.at 0) l.path.items;
}

abbrev pub decreases-loop-at : goal.decreases-loop-at
decreases-loop-at l = l.at
