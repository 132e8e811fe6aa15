use Rattle.std.{proofs.Common.◌≡◌, specs.Prelude.None}
use Rattle.ct_sharing_tests.proofs.tests.committing.commit_often.Given as goal

abbrev pub invariant-loop : goal.invariant-loop
invariant-loop g l = record {
  guest : l.keeper.guest ≡ None;
  enrolled : l.keeper.enrolled ≡ l.initial.keeper.enrolled;
  ended : l.keeper.ended ≡ l.initial.keeper.ended;
}
