use Rattle.std.proofs.Common.{◌≡◌, ◌++◌, map, drop}
use Rattle.ct_query.specs.Pred.{condition_of}
use Rattle.ct_resolve.{specs.Found.each, specs.Conditions.condition_at, specs.Queries.{ons_of, where_of, conditions_of}, proofs.Founds.behind}
use Rattle.ct_resolve.proofs.selects.conditions.Given as goal

abbrev pub invariant-loop-joined : goal.invariant-loop-joined
invariant-loop-joined l =
    behind (map condition_of l.found.items) (each (condition_at l.scope) (ons_of (drop l.joined-index l.joined-items) ++ where_of l.select.condition))
    ≡ each (condition_at l.scope) (conditions_of l.select)
