use Rattle.ct_decide.specs.Part.{IsPart}
use Rattle.ct_decide.proofs.ways.add_ways.Given as goal

abbrev pub invariant-loop-k : goal.invariant-loop-k
invariant-loop-k l = IsPart l.words l.aim l.part
