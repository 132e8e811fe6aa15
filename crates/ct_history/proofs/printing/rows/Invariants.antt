use Rattle.std.proofs.Common.{◌≡◌, ◌++◌, drop}
use Rattle.ct_history.specs.Printed.{rows_with}
use Rattle.ct_history.proofs.printing.rows.Given as goal

abbrev pub invariant-loop-row : goal.invariant-loop-row
invariant-loop-row l = l.out.items ++ rows_with l.words (drop l.row-index l.rows) l.rest ≡ rows_with l.words l.rows l.positions
