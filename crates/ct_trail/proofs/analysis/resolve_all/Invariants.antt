use Rattle.std.proofs.Common.{◌≤◌, length}
use Rattle.ct_trail.specs.{Log.clauses_in, Marks.Resolves, Analysis.NoneKept}
use Rattle.ct_trail.proofs.analysis.resolve_all.Given as goal

abbrev pub invariant-loop-back : goal.invariant-loop-back
invariant-loop-back l = record {
  within : l.end ≤ length l.trail;
  resolves : Resolves (clauses_in l.entries) l.trail l.fn.marks l.marks;
  none : NoneKept l.marks l.trail l.end (length l.trail);
}

abbrev pub decreases-loop-back : goal.decreases-loop-back
decreases-loop-back l = l.end
