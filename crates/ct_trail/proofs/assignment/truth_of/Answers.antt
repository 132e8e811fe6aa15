use Rattle.std.proofs.Common.{◌∙◌, sym}
use Rattle.ct_trail.proofs.Assignments.{truth_past}
use Rattle.ct_trail.proofs.assignment.truth_of.Goals as goal

pub returns-else-is_within : goal.returns-else-is_within
returns-else-is_within c = sym (truth_past c.args.truths.now c.args.l.now (sym c.is_within.ensures ∙ c.if-is_within.false))
