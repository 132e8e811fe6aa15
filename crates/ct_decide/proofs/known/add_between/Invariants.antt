use Rattle.ct_decide.specs.Asking.{IsAsking}
use Rattle.ct_decide.proofs.known.add_between.Given as goal

abbrev pub invariant-loop-k : goal.invariant-loop-k
invariant-loop-k l = IsAsking l.words l.aim l.asking
