use Rattle.std.proofs.Common.{◌≡◌, ◌++◌, drop}
use Rattle.ct_equality.specs.Valued.{world_of}
use Rattle.ct_equality.proofs.values.world.Given as goal

abbrev pub invariant-loop-place : goal.invariant-loop-place
invariant-loop-place l = l.pairs.items ++ world_of l.words l.members (drop l.place-index l.terms) ≡ world_of l.words l.members l.terms
