use Rattle.std.proofs.Common.{◌≡◌}
use Rattle.ct_trail.specs.Log.{learned_in}
use Rattle.ct_sat.proofs.solving.steps_of.Given as goal

abbrev pub invariant-loop-entry : goal.invariant-loop-entry
invariant-loop-entry l = l.steps.items ≡ learned_in l.yielded
