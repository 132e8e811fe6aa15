use Rattle.std.{proofs.Common.{◌≡◌, ◌++◌}, specs.List.filter}
use Rattle.ct_operators.specs.Merging.{rows_of, is_possible}
use Rattle.ct_operators.proofs.gathering.possible.Given as goal

abbrev pub invariant-loop-cells : goal.invariant-loop-cells
invariant-loop-cells l = l.out.items ++ filter is_possible (rows_of l.cells-iterator) ≡ filter is_possible (rows_of l.fn.rows.entries)
