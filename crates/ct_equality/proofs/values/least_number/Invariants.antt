use Rattle.std.proofs.Common.{◌≡◌, ◌<◌, ◌≤◌, ◌-◌, ℕ, true, false, length, get_or}
use Rattle.ct_equality.proofs.values.least_number.Given as goal

abbrev pub invariant-loop-number : goal.invariant-loop-number
invariant-loop-number l = record {
  past : l.from ≤ l.number;
  all : (k : ℕ) → l.from ≤ k → k < l.number → get_or l.taken k false ≡ true;
}

abbrev pub decreases-loop-number : goal.decreases-loop-number
decreases-loop-number l = length l.taken - l.number
