use Rattle.std.{proofs.Common.{◌≡◌, take, false}, specs.List.list_any}
use Rattle.ct_cert.specs.Alike.{is_long}
use Rattle.ct_cert.proofs.repeats.has_long_clause.Given as goal

abbrev pub invariant-loop-step : goal.invariant-loop-step
invariant-loop-step l = list_any is_long (take l.step-index l.derivation.steps) ≡ false
