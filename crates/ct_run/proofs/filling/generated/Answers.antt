use Rattle.std.proofs.Common.{refl}
use Rattle.ct_run.specs.Promise.{generated}
use Rattle.ct_run.proofs.filling.generated.Goals as goal

pub returns : goal.returns
unfolding generated
returns c =
    rw (
      c.in_ok-push-4.ensures.items,
      c.in_ok-push-3.ensures.items,
      c.in_ok-push-2.ensures.items,
      c.in_ok-push.ensures.items,
      c.new-scripts.ensures.items,
      c.in_ok-script.ensures,
      c.in_ok-script-2.ensures,
      c.in_ok-script-3.ensures,
      c.in_ok-script-4.ensures,
    ) refl
