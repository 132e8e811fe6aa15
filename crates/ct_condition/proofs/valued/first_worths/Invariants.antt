use Rattle.std.{proofs.Common.{◌≡◌, ◌≤◌, length}, specs.Prelude.vec_capacity}
use Rattle.ct_condition.specs.Worth.{HaveWorths}
use Rattle.ct_condition.proofs.valued.first_worths.Given as goal

abbrev pub invariant-loop-earlier : goal.invariant-loop-earlier
invariant-loop-earlier l = record {
  count : length l.worths.items ≡ l.earlier;
  worths : HaveWorths l.words l.nulls.steps.keys l.world l.worths.items;
  room : l.count ≤ vec_capacity l.worths;
}
