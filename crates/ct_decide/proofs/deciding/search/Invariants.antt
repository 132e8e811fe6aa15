use Rattle.ct_decide.specs.Asking.{IsAsking, left}
use Rattle.ct_decide.proofs.deciding.search.Given as goal

abbrev pub invariant-loop-asking : goal.invariant-loop-asking
invariant-loop-asking l = IsAsking l.words l.aim l.asking

abbrev pub decreases-loop-asking : goal.decreases-loop-asking
decreases-loop-asking l = left l.asking
