use Rattle.std.proofs.Common.{length, sym, ap, ◌∙◌, ◌==◌}
use Rattle.ct_checker.proofs.Members.{ends_at}
use Rattle.ct_checker.proofs.checking.ends_empty.Goals as goal

pub returns-in-Some : goal.returns-in-Some
returns-in-Some c =
    c.is_empty.ensures ∙ ap (λ ls. length ls == 0) c.as_slice.ensures
    ∙ sym (ends_at c.args.steps.now c.in-Some.step.now (sym c.in-Some.ensures.value))
