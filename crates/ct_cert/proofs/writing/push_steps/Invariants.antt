use Rattle.std.{proofs.Common.{◌≡◌, true, ◌++◌, take, flat_map}, specs.Prelude.string_bytes, specs.List.list_all}
use Rattle.ct_cert.{specs.Text.step_text, specs.Ranges.step_fits}
use Rattle.ct_cert.proofs.writing.push_steps.Given as goal

abbrev pub invariant-loop-step : goal.invariant-loop-step
invariant-loop-step l =
    (string_bytes l.out ≡ string_bytes l.initial.out ++ flat_map step_text (take l.step-index l.steps))
    × (list_all step_fits (take l.step-index l.steps) ≡ true)
