use Rattle.std.{proofs.Common.{◌≡◌, take, false, nat_eq}, specs.List.list_any}
use Rattle.ct_samples.proofs.logs.find.Given as goal

abbrev pub invariant-loop-k : goal.invariant-loop-k
invariant-loop-k l = list_any (nat_eq l.word) (take l.k l.words) ≡ false
