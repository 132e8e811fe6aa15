use Rattle.std.proofs.Common.{◌≡◌, ℕ, length}
use Rattle.ct_near.specs.{Conjuncts.AreConjuncts, Related.AreRelated}
use Rattle.ct_near.proofs.relating.asked.Given as goal

abbrev pub invariant-loop : goal.invariant-loop
invariant-loop l = record {
  related : (root : ℕ) → AreConjuncts l.words root l.conjuncts → AreRelated l.words root l.own l.conjuncts.places.items l.reached;
  room : length l.reached.is_asked.items ≡ length l.conjuncts.places.items;
}
