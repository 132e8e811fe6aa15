use Rattle.std.proofs.Common.{◌≡◌, map, take}
use Rattle.ct_algebra.specs.Keyed.{key_of}
use Rattle.ct_algebra.proofs.keys.keys_of.Given as goal

abbrev pub invariant-loop-nth : goal.invariant-loop-nth
invariant-loop-nth l = l.keys.items ≡ map (λ r. key_of l.words l.side l.equals r.cells) (take l.nth l.table.rows)
