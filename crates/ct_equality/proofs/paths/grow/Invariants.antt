use Rattle.std.proofs.Common.{◌-◌, length}
use Rattle.ct_equality.specs.Trees.{HasRoom, IsGrowing}
use Rattle.ct_equality.proofs.paths.grow.Given as goal

abbrev pub invariant-loop-i : goal.invariant-loop-i
invariant-loop-i l = record {
  growing : IsGrowing l.atoms l.truth l.ends.keys.keys l.ends.others.items l.place l.from l.initial.tree.places.items l.tree.places.items l.tree.origins.items;
  room : HasRoom l.atoms l.tree.places.items l.tree.found.words l.tree.found.room;
}

abbrev pub decreases-loop-i : goal.decreases-loop-i
decreases-loop-i l = length l.ends.keys.keys - l.from
