use Rattle.std.proofs.Common.{take}
use Rattle.ct_trail.specs.Look.{LookOf}
use Rattle.ct_trail.proofs.look.look_at.Given as goal

abbrev pub invariant-loop-l : goal.invariant-loop-l
invariant-loop-l l = LookOf l.truths (take l.l-index l.clause) l.look
