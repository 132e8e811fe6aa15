use Rattle.std.proofs.Common.{◌≡◌, ◌∷◌, ◌++◌, drop}
use Rattle.ct_resolve.proofs.rows.listed.Given as goal

abbrev pub invariant-loop-name : goal.invariant-loop-name
invariant-loop-name l = l.all.items ++ drop l.name-index l.rest ≡ l.first ∷ l.rest
