use Rattle.std.proofs.Common.{ap, ◌∙◌, sym, ◌∷◌, [], ◌++◌}
use Rattle.ct_trail.{specs.Log.learned_in, proofs.Logs.learned_more}
use Rattle.ct_sat.proofs.solving.steps_of.Goals as goal

pub loop-entry-preserved : goal.loop-entry-preserved
loop-entry-preserved c =
    c.in_ok-add_step.ensures ∙ ap (λ x. x ++ learned_in (c.in-Some.entry ∷ [])) c.loop-entry.invariant ∙ sym (learned_more c.loop-entry.yielded (c.in-Some.entry ∷ []))
