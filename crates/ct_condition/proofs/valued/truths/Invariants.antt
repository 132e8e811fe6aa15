use Rattle.std.{proofs.Common.{◌≡◌, ◌≤◌, length, map, take}, specs.Prelude.{vec_capacity, vec_len}}
use Rattle.ct_condition.specs.Worth.{is_true}
use Rattle.ct_condition.proofs.valued.truths.Given as goal

abbrev pub invariant-loop-worth : goal.invariant-loop-worth
invariant-loop-worth l = record {
  truths : l.truths.items ≡ map is_true (take l.worth-index l.worths);
  count : vec_len l.truths ≡ l.worth-index;
  room : length l.worths ≤ vec_capacity l.truths;
}
