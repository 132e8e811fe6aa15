use Rattle.std.proofs.Common.{◌≡◌, map, take}
use Rattle.ct_word.specs.Condition.{listed}
use Rattle.ct_query.specs.Pred.{condition_of}
use Rattle.ct_algebra.specs.Equals as spec
use Rattle.ct_algebra.proofs.equals.equals_in.Given as goal

abbrev pub invariant-loop-p : goal.invariant-loop-p
invariant-loop-p l = l.out.items ≡ spec.equals_in l.width (listed (map condition_of (take l.p-index l.list)))
