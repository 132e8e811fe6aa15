use Rattle.std.proofs.Common.{◌≤◌, drop, length}
use Rattle.ct_condition.specs.Nulls.{AreNulls}
use Rattle.ct_condition.proofs.nulls.nulls_of.Given as goal

abbrev pub invariant-loop-next : goal.invariant-loop-next
invariant-loop-next l = record {
  nulls : AreNulls l.steps.keys l.pairs.entries l.next (drop l.next l.listed);
  within : l.next ≤ length l.listed;
}

abbrev pub decreases-loop-next : goal.decreases-loop-next
decreases-loop-next l = l.next
