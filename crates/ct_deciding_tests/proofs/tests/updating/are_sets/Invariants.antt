use Rattle.std.proofs.Common.{take}
use Rattle.std.specs.Prelude.{All}
use Rattle.ct_deciding_tests.proofs.Updated.{IsSetOf}
use Rattle.ct_deciding_tests.proofs.tests.updating.are_sets.Given as goal

abbrev pub invariant-loop-set : goal.invariant-loop-set
invariant-loop-set l = All (IsSetOf l.words l.width) (take l.set-index l.sets)
