use Rattle.std.proofs.Common.{◌≡◌, ◌++◌, map, take}
use Rattle.ct_join.proofs.pairing.add.Given as goal

abbrev pub invariant-loop-place : goal.invariant-loop-place
invariant-loop-place l = l.pairs.items ≡ l.fn.pairs.items ++ map (λ j. (l.left, j)) (take l.place-index l.right)
