use Rattle.ct_equality.specs.Forest.{IsJoining}
use Rattle.ct_equality.proofs.forest.clash.Given as goal

abbrev pub invariant-loop-k : goal.invariant-loop-k
invariant-loop-k l = IsJoining l.words l.atoms l.truth l.k l.found.words l.forest.parents.items l.forest.chiefs.items
