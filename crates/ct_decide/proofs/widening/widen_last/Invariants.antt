use Rattle.std.proofs.Common.{◌≤◌}
use Rattle.ct_decide.specs.Asking.{IsAsking, left}
use Rattle.ct_decide.proofs.widening.widen_last.Given as goal

abbrev pub invariant-loop-k : goal.invariant-loop-k
invariant-loop-k l = record { asking : IsAsking l.words l.aim l.asking; fewer : left l.asking ≤ left l.fn.asking }
