use Rattle.std.proofs.Common.{◌≡◌, ◌++◌, map, take}
use Rattle.ct_history.proofs.printing.add_conditions.Given as goal

abbrev pub invariant-loop-row : goal.invariant-loop-row
invariant-loop-row l = l.roots.items ≡ l.fn.roots.items ++ map (λ r. r.cond) (take l.row-index l.rows)
