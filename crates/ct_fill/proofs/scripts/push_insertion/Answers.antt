use Rattle.std.proofs.Common.{append_assoc}
use Rattle.ct_fill.proofs.scripts.push_insertion.Goals as goal

pub returns : goal.returns
returns c = rw c.in_ok-push.ensures (rw c.in_ok-format.ensures.ok (simp append_assoc))
