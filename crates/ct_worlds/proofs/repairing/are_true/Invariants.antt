use Rattle.std.{proofs.Common.{◌≡◌, true, take}, specs.List.{list_all}}
use Rattle.ct_worlds.specs.Truths.{found_in}
use Rattle.ct_worlds.proofs.repairing.are_true.Given as goal

abbrev pub invariant-loop-condition : goal.invariant-loop-condition
invariant-loop-condition l = list_all (found_in l.truths) (take l.condition-index l.conditions) ≡ true
