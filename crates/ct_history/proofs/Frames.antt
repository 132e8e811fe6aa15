-- Calls that are left where one that they made was refused.
use Rattle.std.{proofs.Common.{ℕ, ◌≤◌, true}, specs.Prelude.{Result, is_err, IsErrAnd}, proofs.lemmas.Result.err_from_is_err_and}
use Rattle.ct_arena.specs.Seen.{Seen}
use Rattle.ct_condition.proofs.Writes.{writes_within}
use Rattle.ct_condition.specs.Writes.{PassWrites}

-- such a call was refused too
pub refused : {T E : Type 0} {cap m n : ℕ} {old new : Seen} (Q : E → Type 0) (r : Result T E) → IsErrAnd r Q → m ≤ n → PassWrites cap old new m true → PassWrites cap old new n (is_err r)
refused Q r is le writes = rw (err_from_is_err_and r is).1 (writes_within _ le writes)
