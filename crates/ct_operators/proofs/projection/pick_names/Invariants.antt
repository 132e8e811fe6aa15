use Rattle.std.{proofs.Common.{◌≡◌, [], take, map}, specs.Prelude.slice_index_or}
use Rattle.ct_operators.proofs.projection.pick_names.Given as goal

abbrev pub invariant-loop-column : goal.invariant-loop-column
invariant-loop-column l = l.out.items ≡ map (λ k. slice_index_or l.names k []) (take l.column-index l.columns)
