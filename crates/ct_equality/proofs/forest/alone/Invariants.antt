use Rattle.std.proofs.Common.{◌≡◌, ◌<◌, ℕ, length, get_or}
use Rattle.ct_equality.proofs.forest.alone.Given as goal

abbrev pub invariant-loop-i : goal.invariant-loop-i
invariant-loop-i l = (length l.parents.items ≡ l.i) × ((j : ℕ) → j < l.i → get_or l.parents.items j 0 ≡ j)
