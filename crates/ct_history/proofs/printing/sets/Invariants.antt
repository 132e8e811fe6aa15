use Rattle.std.proofs.Common.{◌≡◌, map, take}
use Rattle.ct_history.specs.Written.{plain_set}
use Rattle.ct_history.proofs.printing.sets.Given as goal

abbrev pub invariant-loop-set : goal.invariant-loop-set
invariant-loop-set l = l.out.items ≡ map (plain_set l.words) (take l.set-index l.sets)
