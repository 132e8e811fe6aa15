use Rattle.std.{proofs.Common.{◌≡◌, take}, specs.Prelude.{sum_by, count_by}}
use Rattle.ct_statement.specs.Drawing.{is_fresh}
use Rattle.ct_statement.proofs.drawing.fresh_in.Given as goal

abbrev pub invariant-loop-terms : goal.invariant-loop-terms
invariant-loop-terms l = l.count ≡ sum_by (count_by is_fresh) (take l.terms-index l.rows)
