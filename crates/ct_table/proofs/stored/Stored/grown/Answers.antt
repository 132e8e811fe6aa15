use Rattle.std.proofs.Common.{sym, ◌∙◌}
use Rattle.ct_table.{specs.Growing.put, proofs.Putting.{grown_void, grown_real}}
use Rattle.ct_table.proofs.stored.Stored.grown.Goals as goal

pub loop-put-preserved-then-is_void : goal.loop-put-preserved-then-is_void
loop-put-preserved-then-is_void c =
    c.loop-put.invariant
    ∙ grown_void c.args.self.entries c.args.puts.now c.loop-put.put-index c.put-item.result c.loop-put-test.true c.put-item.is (sym c.is_void.ensures ∙ c.if-is_void.true)

pub loop-put-preserved : goal.loop-put-preserved
loop-put-preserved c =
    c.in_ok-put.ensures.put ∙ (λ j. put (c.loop-put.invariant j) (c.in_ok-row.ensures j).0 (c.in_ok-row.ensures j).1)
    ∙ grown_real c.args.self.entries c.args.puts.now c.loop-put.put-index c.put-item.result c.loop-put-test.true c.put-item.is (sym c.is_void.ensures ∙ c.if-is_void.false)
