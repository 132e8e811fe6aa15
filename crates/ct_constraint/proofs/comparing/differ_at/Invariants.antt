use Rattle.std.proofs.Common.{take}
use Rattle.ct_constraint.specs.Comparing.{MayAgree}
use Rattle.ct_constraint.proofs.comparing.differ_at.Given as goal

abbrev pub invariant-loop-column : goal.invariant-loop-column
invariant-loop-column l = MayAgree l.words l.left l.right (take l.column-index l.columns)
