use Rattle.std.{proofs.Common.◌≡◌, specs.Prelude.vec_len}
use Rattle.ct_workers.proofs.sides.slots_for.Given as goal

abbrev pub invariant-loop : goal.invariant-loop
invariant-loop l = vec_len l.slots ≡ l.counter
