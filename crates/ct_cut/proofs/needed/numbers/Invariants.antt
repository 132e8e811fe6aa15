use Rattle.std.proofs.Common.{◌≡◌, ◌≤◌, ◌++◌, drop}
use Rattle.ct_cut.specs.Cut.{ranks}
use Rattle.ct_cut.proofs.needed.numbers.Given as goal

abbrev pub invariant-loop-marked : goal.invariant-loop-marked
invariant-loop-marked l = (l.numbers.items ++ ranks l.count (drop l.marked-index l.marks) ≡ ranks 0 l.marks) × (l.count ≤ l.marked-index)
