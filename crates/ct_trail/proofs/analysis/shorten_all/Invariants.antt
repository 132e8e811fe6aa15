use Rattle.ct_trail.specs.{Log.clauses_in, Marks.Resolves}
use Rattle.ct_trail.proofs.analysis.shorten_all.Given as goal

abbrev pub invariant-loop-place : goal.invariant-loop-place
invariant-loop-place l = Resolves (clauses_in l.entries) l.trail l.fn.marks l.marks
