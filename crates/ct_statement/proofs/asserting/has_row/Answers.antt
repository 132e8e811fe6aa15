use Rattle.std.proofs.Common.{arith}
use Rattle.ct_condition.proofs.Writes.{writes_within}
use Rattle.ct_statement.proofs.asserting.has_row.Goals as goal

pub returns-then-wanted-clause-writes : goal.returns-then-wanted-clause-writes
returns-then-wanted-clause-writes g c = writes_within _ (omega arith) c.some.ensures.writes
