use Rattle.std.proofs.Common.{◌≡◌, length}
use Rattle.ct_worlds.specs.Nulls.{AreNulls}
use Rattle.ct_near.{specs.Conjuncts.AreChosen, specs.Near.IsScope, specs.Related.AreFlagged, proofs.Widening.unasked}
use Rattle.ct_near.proofs.scope.scope_of.Given as goal

abbrev pub invariant-loop-conjunct : goal.invariant-loop-conjunct
invariant-loop-conjunct l = record {
  room : length l.is_asked.items ≡ length l.conjuncts.places.items;
  flagged : AreFlagged l.words l.root l.own l.conjuncts.places.items l.is_asked.items;
  scope : IsScope l.words l.scope;
  chosen : AreChosen l.conjuncts.places.items l.is_asked.items l.own l.scope.conditions.items;
  nulls : AreNulls l.words l.scope.nulls;
}

abbrev pub decreases-loop-conjunct : goal.decreases-loop-conjunct
decreases-loop-conjunct l = unasked l.is_asked.items
