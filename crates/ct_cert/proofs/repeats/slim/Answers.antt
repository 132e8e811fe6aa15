use Rattle.std.{proofs.Common.{sym, subst, take, ◌+◌}, specs.List.AllZip}
use Rattle.ct_cert.{specs.{Alike.AreAlike, Numbered.IsOnce}, proofs.Alike.more_alike}
use Rattle.ct_cert.proofs.repeats.slim.Goals as goal

pub loop-step-preserved : goal.loop-step-preserved
loop-step-preserved c =
    let steps = c.args.derivation.now.steps in
    let items = c.as_slice-step-items.result.now in
    let at = c.loop-step.step-index in
    let old = c.loop-step.steps.items in
    let one = c.in_ok-slim_step.ensures in
    let made = c.in_ok-slim_step.field-0 in
    record {
      alike = subst (AllZip AreAlike (take (at + 1) steps)) (sym c.in_ok-push.ensures.items)
          (more_alike AreAlike steps items old at c.step-item.result made c.as_slice-step-items.ensures c.loop-step-test.true c.step-item.is c.loop-step.invariant.alike one.alike);
      once = subst (AllZip IsOnce (take (at + 1) steps)) (sym c.in_ok-push.ensures.items)
          (more_alike IsOnce steps items old at c.step-item.result made c.as_slice-step-items.ensures c.loop-step-test.true c.step-item.is c.loop-step.invariant.once one.once);
    }
