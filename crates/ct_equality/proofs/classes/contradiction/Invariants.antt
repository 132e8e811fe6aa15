use Rattle.ct_equality.specs.Classes.{IsApart}
use Rattle.ct_equality.proofs.classes.contradiction.Given as goal

abbrev pub invariant-loop-k : goal.invariant-loop-k
invariant-loop-k l = IsApart l.atoms l.truth l.k l.members
