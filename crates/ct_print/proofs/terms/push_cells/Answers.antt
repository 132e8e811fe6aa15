use Rattle.std.{proofs.Common.arith, specs.Prelude.codes}
use Rattle.ct_print.{specs.TermText.term_text, proofs.Joins.join_written}
use Rattle.ct_print.proofs.terms.push_cells.Goals as goal

pub loop-i-preserved : goal.loop-i-preserved
loop-i-preserved c =
    join_written term_text (codes ", ") c.args.cells.now c.loop-i.i c.index-cells-i.result _ _ _ _ _
    (omega arith) c.index-cells-i.is c.loop-i.invariant c.in_ok-push_separator.ensures c.in_ok-push_term.ensures
