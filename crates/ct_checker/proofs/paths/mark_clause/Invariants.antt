use Rattle.std.proofs.Common.{◌≡◌, [], drop}
use Rattle.ct_checker.specs.Added.{added_all}
use Rattle.ct_checker.proofs.paths.mark_clause.Given as goal

abbrev pub invariant-loop-literal : goal.invariant-loop-literal
invariant-loop-literal l = (added_all l.marks.falses (drop l.literal-index l.clause) ≡ added_all [] l.clause) × (l.marks.room ≡ l.fn.marks.room)
