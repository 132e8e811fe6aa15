use Rattle.ct_cut.specs.Cut.{all_hints, AreNeeded}
use Rattle.ct_cut.proofs.needed.needed.Given as goal

abbrev pub invariant-loop-k : goal.invariant-loop-k
invariant-loop-k l = AreNeeded (all_hints l.entries) l.k l.marks.items
