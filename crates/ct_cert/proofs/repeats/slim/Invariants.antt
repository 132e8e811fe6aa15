use Rattle.std.{proofs.Common.take, specs.List.AllZip}
use Rattle.ct_cert.specs.{Alike.AreAlike, Numbered.IsOnce}
use Rattle.ct_cert.proofs.repeats.slim.Given as goal

abbrev pub invariant-loop-step : goal.invariant-loop-step
invariant-loop-step l = record {
  alike : AllZip AreAlike (take l.step-index l.derivation.steps) l.steps.items;
  once : AllZip IsOnce (take l.step-index l.derivation.steps) l.steps.items;
}
