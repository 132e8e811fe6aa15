use Rattle.std.proofs.Common.{◌-◌, length}
use Rattle.ct_equality.{specs.Terms.terms_of, specs.Trees.{HasRoom, IsExploring}}
use Rattle.ct_equality.proofs.paths.explore.Given as goal

abbrev pub invariant-loop-at : goal.invariant-loop-at
invariant-loop-at l = record {
  exploring : IsExploring l.atoms l.truth l.root l.at l.tree.places.items l.tree.origins.items;
  room : HasRoom l.atoms l.tree.places.items l.tree.found.words l.tree.found.room;
}

abbrev pub decreases-loop-at : goal.decreases-loop-at
decreases-loop-at l = length (terms_of l.atoms) - l.at
