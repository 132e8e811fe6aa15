use Rattle.std.proofs.Common.{◌≡◌, false, take}
use Rattle.ct_algebra.specs.Equals.{differ_in}
use Rattle.ct_algebra.proofs.equals.differ_in.Given as goal

abbrev pub invariant-loop-equal : goal.invariant-loop-equal
invariant-loop-equal l = differ_in l.words (take l.equal-index l.equals) l.left l.right ≡ false
