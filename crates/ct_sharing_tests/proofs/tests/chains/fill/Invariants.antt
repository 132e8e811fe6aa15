use Rattle.std.proofs.Common.{◌≡◌}
use Rattle.ct_sharing_tests.proofs.tests.chains.fill.Given as goal

abbrev pub invariant-loop-k : goal.invariant-loop-k
invariant-loop-k l = l.chain.room ≡ l.room
