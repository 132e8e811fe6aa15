use Rattle.std.proofs.Common.{◌≡◌, drop}
use Rattle.ct_trail.specs.Marks.{with_kept}
use Rattle.ct_trail.proofs.marks.keep_all.Given as goal

abbrev pub invariant-loop-l : goal.invariant-loop-l
invariant-loop-l l = with_kept l.marks (drop l.l-index l.clause) ≡ with_kept l.fn.marks l.clause
