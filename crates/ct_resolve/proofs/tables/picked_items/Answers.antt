use Rattle.ct_resolve.{specs.Queries.item_at, proofs.Founds.next_found}
use Rattle.ct_resolve.proofs.tables.picked_items.Goals as goal

pub loop-item-preserved : goal.loop-item-preserved
loop-item-preserved c =
    next_found (item_at c.args.scope.now) c.args.rest.now c.loop-item.item-index c.loop-item.picked.items c.loop-item-test.true c.item-item.is c.in_ok-one-2.ensures.ok c.in_ok-push-2.ensures.items c.loop-item.invariant
