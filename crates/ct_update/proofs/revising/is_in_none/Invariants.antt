use Rattle.std.{proofs.Common.take, specs.Prelude.{◌≢◌, All}}
use Rattle.ct_update.proofs.revising.is_in_none.Given as goal

abbrev pub invariant-loop-nth : goal.invariant-loop-nth
invariant-loop-nth l = All (λ e. e.1.cells ≢ l.cells) (take l.nth l.rows)
