use Rattle.std.proofs.Common.{◌≡◌, take}
use Rattle.ct_certain.proofs.derivations.copied_derivation.Given as goal

abbrev pub invariant-loop-step : goal.invariant-loop-step
invariant-loop-step l = l.steps.items ≡ take l.step-index l.derivation.steps
