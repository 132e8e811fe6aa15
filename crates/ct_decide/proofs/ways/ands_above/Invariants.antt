use Rattle.ct_decide.specs.Part.{AreConditionsBelow}
use Rattle.ct_decide.proofs.ways.ands_above.Given as goal

abbrev pub invariant-loop-k : goal.invariant-loop-k
invariant-loop-k l = record {
  run : AreConditionsBelow l.words l.root l.run.keys;
  ands : AreConditionsBelow l.words l.root l.ands.items;
}
