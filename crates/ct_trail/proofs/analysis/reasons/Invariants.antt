use Rattle.std.proofs.Common.{◌≡◌, ◌++◌, drop}
use Rattle.ct_trail.specs.Marks.{reasons_of}
use Rattle.ct_trail.proofs.analysis.reasons.Given as goal

abbrev pub invariant-loop-put : goal.invariant-loop-put
invariant-loop-put l = l.hints.items ++ reasons_of l.marks (drop l.put-index l.trail) ≡ reasons_of l.marks l.trail
