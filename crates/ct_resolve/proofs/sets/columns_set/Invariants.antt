use Rattle.std.proofs.Common.{◌≡◌, ◌∷◌, ◌++◌, drop}
use Rattle.ct_resolve.specs.Statements.{columns_set}
use Rattle.ct_resolve.proofs.sets.columns_set.Given as goal

abbrev pub invariant-loop-written : goal.invariant-loop-written
invariant-loop-written l = l.names.items ++ columns_set (drop l.written-index l.rest) ≡ columns_set (l.first ∷ l.rest)
