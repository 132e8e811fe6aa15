use Rattle.ct_decide.specs.Asking.{IsAsking}
use Rattle.ct_decide.proofs.known.add_all_between.Given as goal

abbrev pub invariant-loop-place : goal.invariant-loop-place
invariant-loop-place l = IsAsking l.words l.aim l.asking
