use Rattle.std.proofs.Common.{◌≡◌, ◌++◌}
use Rattle.ct_table.proofs.preparing.ready.Given as goal

abbrev pub invariant-loop-cells : goal.invariant-loop-cells
invariant-loop-cells l = l.puts.items ++ l.cells-iterator ≡ l.fn.pending.entries
