use Rattle.ct_cnf.specs.Lists.{AreNumbered}
use Rattle.ct_cnf.proofs.numbers.number.Given as goal

abbrev pub invariant-loop-p : goal.invariant-loop-p
invariant-loop-p l = AreNumbered l.words l.fn.conditions.items l.p-index l.nodes.items l.atoms.items
