use Rattle.std.{proofs.Common.take, specs.Prelude.{◌≢◌, All}}
use Rattle.ct_update.proofs.revising.is_nowhere.Given as goal

abbrev pub invariant-loop-nth : goal.invariant-loop-nth
invariant-loop-nth g l = All (λ r. r.cells ≢ l.cells) (take l.nth (g.T.RowSource.table l.table).rows)
