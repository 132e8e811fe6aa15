use Rattle.std.{proofs.Common.{◌≡◌, map}, specs.Prelude.Ok}
use Rattle.ct_workers.proofs.sides.rows_of.Given as goal

abbrev pub invariant-loop-slot : goal.invariant-loop-slot
invariant-loop-slot l = map (λ s. s.row) l.yielded ≡ map Ok l.rows.items
