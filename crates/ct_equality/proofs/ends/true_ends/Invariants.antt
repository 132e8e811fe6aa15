use Rattle.std.proofs.Common.{◌≡◌, ◌+◌, ◌≤◌, length}
use Rattle.ct_equality.specs.Ends.{AreEnds}
use Rattle.ct_equality.proofs.ends.true_ends.Given as goal

abbrev pub invariant-loop-k : goal.invariant-loop-k
invariant-loop-k l = record {
  room : l.ends.keys.room ≡ length l.atoms + length l.atoms;
  count : length l.ends.keys.keys ≤ l.k + l.k;
  ends : AreEnds l.atoms l.truth l.k l.ends.keys.keys l.ends.others.items;
}
