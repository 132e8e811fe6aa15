use Rattle.std.{proofs.Common.take, specs.Prelude.All}
use Rattle.ct_operators.specs.Tables.{IsRow}
use Rattle.ct_deciding_tests.proofs.tests.tables.are_rows.Given as goal

abbrev pub invariant-loop-row : goal.invariant-loop-row
invariant-loop-row l = All (IsRow l.words l.width) (take l.row-index l.rows)
