use Rattle.ct_resolve.{specs.Statements.set_at, proofs.Founds.next_found}
use Rattle.ct_resolve.proofs.sets.sets.Goals as goal

pub loop-written-preserved : goal.loop-written-preserved
loop-written-preserved c =
    next_found (set_at c.args.table.now) c.args.rest.now c.loop-written.written-index c.loop-written.found.items c.loop-written-test.true c.written-item.is c.in_ok-one-2.ensures.ok
    c.in_ok-push-2.ensures.items c.loop-written.invariant
