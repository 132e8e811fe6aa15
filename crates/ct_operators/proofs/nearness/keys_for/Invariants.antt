use Rattle.std.proofs.Common.{◌≡◌, map, take}
use Rattle.ct_operators.specs.Nearness.{row_key}
use Rattle.ct_operators.proofs.nearness.keys_for.Given as goal

abbrev pub invariant-loop-row : goal.invariant-loop-row
invariant-loop-row l = l.keys.items ≡ map (λ r. row_key l.words r.cells) (take l.row-index l.rows)
