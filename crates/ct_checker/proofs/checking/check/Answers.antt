use Rattle.std.proofs.Common.{sym, ◌∙◌}
use Rattle.ct_derivation.proofs.Sound.{root_refuted}
use Rattle.ct_checker.proofs.checking.check.Goals as goal

pub returns-clause-refuted : goal.returns-clause-refuted
returns-clause-refuted c = λ wf e. root_refuted _ _ _ wf (sym c.is_accepted.ensures.exact ∙ e)
