use Rattle.ct_statement.proofs.Printed.{printed_pushed}
use Rattle.ct_statement.proofs.printing.printed_rows.Goals as goal

pub loop-i-preserved : goal.loop-i-preserved
loop-i-preserved c =
    printed_pushed c.args.words.now c.args.rows.now c.args.positions.now c.loop-i.i c.index-rows-i.result c.loop-i.printed.items _ _ c.in_ok-terms.field-0
    c.loop-i-test.true c.requires.positions c.index-rows-i.is c.loop-i.invariant c.as_slice.ensures c.in_ok-terms.ensures c.in_ok-push.ensures.items
