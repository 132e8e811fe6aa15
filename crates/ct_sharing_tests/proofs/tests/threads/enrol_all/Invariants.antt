use Rattle.std.{proofs.Common.{◌≡◌, ◌+◌}, specs.Prelude.{None, vec_len}}
use Rattle.ct_sharing_tests.proofs.tests.threads.enrol_all.Given as goal

abbrev pub invariant-loop : goal.invariant-loop
invariant-loop g l = record {
  count : vec_len l.workers ≡ l.counter;
  enrolled : l.keeper.enrolled ≡ l.initial.keeper.enrolled + l.counter;
  ended : l.keeper.ended ≡ l.initial.keeper.ended;
  guest : l.keeper.guest ≡ None;
}
