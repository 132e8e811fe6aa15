use Rattle.std.proofs.Common.{◌≡◌, drop, max}
use Rattle.ct_derivation.specs.Accepts.{widest_of}
use Rattle.ct_checker.proofs.checking.widest.Given as goal

abbrev pub invariant-loop-step : goal.invariant-loop-step
invariant-loop-step l = max l.most (widest_of (drop l.step-index l.derivation.steps)) ≡ widest_of l.derivation.steps
