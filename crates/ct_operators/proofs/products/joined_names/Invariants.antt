use Rattle.std.proofs.Common.{◌≡◌, ◌++◌, take}
use Rattle.ct_operators.proofs.products.joined_names.Given as goal

abbrev pub invariant-loop-name : goal.invariant-loop-name
invariant-loop-name l = l.joined.items ≡ l.left ++ take l.name-index l.right
