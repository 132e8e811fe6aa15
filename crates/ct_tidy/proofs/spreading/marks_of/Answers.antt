use Rattle.std.{proofs.Common.{◌∙◌, ap, drop, ◌+◌}, specs.Prelude.flat_map}
use Rattle.ct_tidy.{specs.Marks.with_marks, specs.Spread.places_in_row, proofs.Marked.row_turn}
use Rattle.ct_tidy.proofs.spreading.marks_of.Goals as goal

pub loop-row-preserved : goal.loop-row-preserved
loop-row-preserved c =
    let rows = c.args.rows.now in
    let i = c.loop-row.row-index in
    ap (λ ms. with_marks ms (flat_map places_in_row (drop (i + 1) rows))) c.mark_row.ensures
    ∙ row_turn rows i c.row-item.result c.loop-row.marks.items c.loop-row-test.true c.row-item.is ∙ c.loop-row.invariant
