use Rattle.std.proofs.Common.{◌≡◌, ◌∷◌, map, drop}
use Rattle.ct_query.specs.Pred.{condition_of}
use Rattle.ct_parse.specs.declared.tree.Condition.{out-Condition}
use Rattle.ct_resolve.{specs.Found.each, specs.Conditions.{factor_at, conjunction_at}, proofs.Founds.behind}
use Rattle.ct_resolve.proofs.conditions.+condition.Given as goal

abbrev pub invariant-conjunction-loop-next : goal.invariant-conjunction-loop-next
invariant-conjunction-loop-next l =
    behind (map condition_of l.found.items) (each (factor_at l.scope) (drop l.next-index l.next-items)) ≡ each (factor_at l.scope) (l.written.first ∷ l.written.rest)

abbrev pub invariant-conjunctions-loop-next : goal.invariant-conjunctions-loop-next
invariant-conjunctions-loop-next l =
    behind (map condition_of l.found.items) (each (conjunction_at l.scope) (drop l.next-index l.next-items))
    ≡ each (conjunction_at l.scope) ((out-Condition l.written).first ∷ (out-Condition l.written).rest)
