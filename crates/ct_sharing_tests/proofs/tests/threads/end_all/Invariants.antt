use Rattle.std.{proofs.Common.{◌≡◌, ◌+◌, length}, specs.Prelude.{None, vec_len}}
use Rattle.ct_sharing_tests.proofs.tests.threads.end_all.Given as goal

abbrev pub invariant-loop-worker : goal.invariant-loop-worker
invariant-loop-worker g l = record {
  enrolled : l.keeper.enrolled ≡ l.initial.keeper.enrolled;
  ended : length l.keeper.ended + vec_len l.workers ≡ length l.initial.keeper.ended + vec_len l.initial.workers;
  guest : l.keeper.guest ≡ None;
}

abbrev pub decreases-loop-worker : goal.decreases-loop-worker
decreases-loop-worker g l = vec_len l.workers
