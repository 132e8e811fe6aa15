use Rattle.std.{proofs.Common.{take}, specs.Prelude.IfSome, specs.List.Contains}
use Rattle.ct_csv.proofs.Marks.{IsFreeBelow, places_of_rows}
use Rattle.ct_csv.proofs.underscores.least_free.Given as goal

abbrev pub invariant-loop-row : goal.invariant-loop-row
invariant-loop-row l = IsFreeBelow l.words l.rows (places_of_rows (take l.row-index l.rows)) l.free × IfSome l.last (Contains (places_of_rows (take l.row-index l.rows)))
