use Rattle.std.{proofs.Common.{◌≤◌, length}, specs.Prelude.All}
use Rattle.ct_worlds.specs.Repaired.{IsWishBelow}
use Rattle.ct_worlds.proofs.wishing.wishes.Given as goal

abbrev pub invariant-loop-next : goal.invariant-loop-next
invariant-loop-next l = record {
  wishes : All (IsWishBelow l.words l.conditions) l.wishes.items;
  within : l.next ≤ length l.places;
}

abbrev pub decreases-loop-next : goal.decreases-loop-next
decreases-loop-next l = l.next
