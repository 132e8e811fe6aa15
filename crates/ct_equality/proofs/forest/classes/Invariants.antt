use Rattle.ct_equality.specs.Forest.{AreClassesTo}
use Rattle.ct_equality.proofs.forest.classes.Given as goal

abbrev pub invariant-loop-i : goal.invariant-loop-i
invariant-loop-i l = AreClassesTo l.parents.items l.fn.forest.chiefs.items l.i l.classes.items
