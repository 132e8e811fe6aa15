use Rattle.std.proofs.Common.{◌≡◌, ◌<◌, ◌+◌, ℕ, false, length, get_or, take}
use Rattle.ct_equality.specs.Members.{is_taken}
use Rattle.ct_equality.proofs.values.taken.Given as goal

abbrev pub invariant-loop-m : goal.invariant-loop-m
invariant-loop-m l = record {
  count : length l.taken.items ≡ length l.members + 1;
  taken : (k : ℕ) → k < length l.taken.items → get_or l.taken.items k false ≡ is_taken (take l.m-index l.members) k;
}
