use Rattle.std.specs.Prelude.{reverse}
use Rattle.ct_rewrite.specs.Below.{has_in, IsPassedTo}
use Rattle.ct_rewrite.proofs.below.below.Given as goal

abbrev pub invariant-loop-place : goal.invariant-loop-place
invariant-loop-place g l = IsPassedTo (g.G.Graph.is_in l.graph) (g.G.Graph.parts l.graph) l.roots l.bound (has_in l.waiting) (reverse l.passed.items)

abbrev pub decreases-loop-place : goal.decreases-loop-place
decreases-loop-place g l = l.bound
