use Rattle.std.proofs.Common.{◌≡◌, ◌++◌, take}
use Rattle.ct_operators.proofs.unions.copy_all.Given as goal

abbrev pub invariant-loop-nth : goal.invariant-loop-nth
invariant-loop-nth g l = l.to.items ≡ l.fn.to.items ++ take l.nth (g.T.RowSource.table l.table).rows
