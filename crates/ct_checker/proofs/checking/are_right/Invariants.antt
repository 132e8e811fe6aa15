use Rattle.std.proofs.Common.{◌≡◌, drop, take, []}
use Rattle.ct_derivation.specs.Accepts.{all_right}
use Rattle.ct_checker.proofs.checking.are_right.Given as goal

abbrev pub invariant-loop-i : goal.invariant-loop-i
invariant-loop-i l = (all_right l.words l.root (take l.i l.steps) (drop l.i l.steps) ≡ all_right l.words l.root [] l.steps) × (l.marks.room ≡ l.fn.marks.room)
