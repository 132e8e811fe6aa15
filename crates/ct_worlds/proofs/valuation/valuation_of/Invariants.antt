use Rattle.std.proofs.Common.{◌≤◌, drop, length}
use Rattle.ct_worlds.specs.Valuation.{AreNumbers}
use Rattle.ct_worlds.proofs.valuation.valuation_of.Given as goal

abbrev pub invariant-loop-next : goal.invariant-loop-next
invariant-loop-next l = record {
  numbers : AreNumbers l.listed (drop l.next l.listed) l.numbers.entries;
  within : l.next ≤ length l.listed;
}

abbrev pub decreases-loop-next : goal.decreases-loop-next
decreases-loop-next l = l.next
