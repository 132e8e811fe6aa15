use Rattle.std.{proofs.Common.{◌≡◌, ℕ, ◌≤◌, length, take}, specs.Prelude.IsTrue}
use Rattle.ct_rewrite.{specs.Below.{has, HasAt}, specs.Moving.IsKept}
use Rattle.ct_rewrite.proofs.kept.placed.Given as goal

abbrev pub invariant-loop-position : goal.invariant-loop-position
invariant-loop-position l = record {
  room : length l.builder ≤ l.position-index;
  places : l.positions.places ≡ l.reached;
  long : length l.positions.positions ≡ l.position-index;
  kept : (k : ℕ) → IsTrue (has (take l.position-index l.reached) k) → HasAt (IsKept l.nodes l.builder) l.positions k;
}
