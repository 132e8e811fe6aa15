use Rattle.std.proofs.Common.{◌≡◌, map, take}
use Rattle.ct_csv.proofs.exporting.conditions.Given as goal

abbrev pub invariant-loop-row : goal.invariant-loop-row
invariant-loop-row l = l.places.items ≡ map (λ r. r.cond) (take l.row-index l.rows)
