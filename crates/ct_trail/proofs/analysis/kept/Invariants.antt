use Rattle.std.proofs.Common.{◌≡◌, drop}
use Rattle.ct_trail.specs.Marks.{kept_of}
use Rattle.ct_trail.proofs.analysis.kept.Given as goal

abbrev pub invariant-loop-place : goal.invariant-loop-place
invariant-loop-place l = l.clause.items ≡ kept_of l.marks (drop l.place l.trail)
