use Rattle.ct_trail.specs.Analysis.{NoneKept}
use Rattle.ct_trail.proofs.analysis.last_kept.Given as goal

abbrev pub invariant-loop-place : goal.invariant-loop-place
invariant-loop-place l = NoneKept l.marks l.trail l.place l.end
