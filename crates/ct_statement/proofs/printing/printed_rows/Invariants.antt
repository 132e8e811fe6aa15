use Rattle.std.proofs.Common.{◌≡◌, take}
use Rattle.ct_statement.specs.Printed.{printed_rows}
use Rattle.ct_statement.proofs.printing.printed_rows.Given as goal

abbrev pub invariant-loop-i : goal.invariant-loop-i
invariant-loop-i l = l.printed.items ≡ printed_rows l.words (take l.i l.rows) l.positions
