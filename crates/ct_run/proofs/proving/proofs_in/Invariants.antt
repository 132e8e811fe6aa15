use Rattle.std.proofs.Common.{◌≡◌, map, take}
use Rattle.ct_run.proofs.proving.proofs_in.Given as goal

abbrev pub invariant-loop-row : goal.invariant-loop-row
invariant-loop-row l = map (λ p. p.now) l.proofs.items ≡ map (λ r. r.proof) (take l.row-index l.rows)
