use Rattle.std.proofs.Common.{◌≡◌, length}
use Rattle.ct_checker.proofs.marks.unlink.Given as goal

abbrev pub invariant-loop-literal : goal.invariant-loop-literal
invariant-loop-literal l = length l.heads ≡ length l.fn.heads
