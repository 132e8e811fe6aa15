use Rattle.std.proofs.Common.{◌≡◌, ◌∷◌, drop}
use Rattle.ct_resolve.{specs.Found.each, specs.Queries.item_at, proofs.Founds.behind}
use Rattle.ct_resolve.proofs.tables.picked_items.Given as goal

abbrev pub invariant-loop-item : goal.invariant-loop-item
invariant-loop-item l = behind l.picked.items (each (item_at l.scope) (drop l.item-index l.rest)) ≡ each (item_at l.scope) (l.first ∷ l.rest)
