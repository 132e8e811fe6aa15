use Rattle.std.{proofs.Common.{◌≡◌, take, map}, specs.Prelude.slice_index_or}
use Rattle.ct_operators.proofs.projection.pick.Given as goal

abbrev pub invariant-loop-column : goal.invariant-loop-column
invariant-loop-column l = l.cells.items ≡ map (λ k. slice_index_or l.row.cells k 0) (take l.column-index l.columns)
