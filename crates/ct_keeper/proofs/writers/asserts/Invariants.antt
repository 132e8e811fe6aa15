use Rattle.std.{proofs.Common.{◌≡◌, false, take}, specs.List.list_any}
use Rattle.ct_keeper.specs.Steps.{is_assertion}
use Rattle.ct_keeper.proofs.writers.asserts.Given as goal

abbrev pub invariant-loop-change : goal.invariant-loop-change
invariant-loop-change l = list_any is_assertion (take l.change-index l.changes) ≡ false
