use Rattle.ct_decide.specs.Part.{IsPart}
use Rattle.ct_decide.proofs.part.define_all.Given as goal

abbrev pub invariant-loop-k : goal.invariant-loop-k
invariant-loop-k l = IsPart l.words l.aim l.part
