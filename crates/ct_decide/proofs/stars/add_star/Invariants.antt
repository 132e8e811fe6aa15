use Rattle.ct_decide.proofs.Along.{IsStarTo}
use Rattle.std.proofs.Common.{◌≤◌}
use Rattle.ct_decide.proofs.stars.add_star.Given as goal

abbrev pub invariant-loop-k : goal.invariant-loop-k
invariant-loop-k l = record {
  star : IsStarTo l.words l.aim l.model l.fn.asking l.asking l.path l.k;
  from : 2 ≤ l.k;
}
