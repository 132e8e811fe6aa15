use Rattle.std.proofs.Common.{◌≡◌, take}
use Rattle.ct_checker.proofs.propagation.fill.Given as goal

abbrev pub invariant-loop-literal : goal.invariant-loop-literal
invariant-loop-literal l = (l.marks.falses ≡ take l.literal-index l.clause) × (l.marks.room ≡ l.fn.marks.room)
