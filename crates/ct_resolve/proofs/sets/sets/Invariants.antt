use Rattle.std.proofs.Common.{◌≡◌, ◌∷◌, drop}
use Rattle.ct_resolve.{specs.Found.each, specs.Statements.set_at, proofs.Founds.behind}
use Rattle.ct_resolve.proofs.sets.sets.Given as goal

abbrev pub invariant-loop-written : goal.invariant-loop-written
invariant-loop-written l = behind l.found.items (each (set_at l.table) (drop l.written-index l.rest)) ≡ each (set_at l.table) (l.first ∷ l.rest)
