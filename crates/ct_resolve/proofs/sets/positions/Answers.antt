use Rattle.ct_resolve.{specs.Names.column_in, proofs.Founds.next_found}
use Rattle.ct_resolve.proofs.sets.positions.Goals as goal

pub loop-name-preserved : goal.loop-name-preserved
loop-name-preserved c =
    next_found (column_in c.args.table.now) c.args.names.now c.loop-name.name-index c.loop-name.found.items c.loop-name-test.true c.name-item.is c.in_ok-position.ensures.ok c.in_ok-push.ensures.items
    c.loop-name.invariant
