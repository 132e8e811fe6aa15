use Rattle.std.proofs.Common.{length}
use Rattle.ct_chain.specs.Linked.{IsSought}
use Rattle.ct_chain.proofs.links.find_along.Given as goal

abbrev pub invariant-loop-at : goal.invariant-loop-at
invariant-loop-at l = IsSought (length l.heads) l.words l.w l.at

abbrev pub decreases-loop-at : goal.decreases-loop-at
decreases-loop-at l = l.at
