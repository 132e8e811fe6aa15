use Rattle.std.{proofs.Common.arith, specs.Prelude.codes}
use Rattle.ct_print.proofs.Joins.{join_written}
use Rattle.ct_transcript.{specs.NodeText.with_names, specs.Text.row_text}
use Rattle.ct_transcript.proofs.rows.push_joined_rows.Goals as goal

pub loop-i-preserved : goal.loop-i-preserved
loop-i-preserved c =
    join_written (row_text c.args.nodes.now (with_names c.args.nodes.now c.args.names.now)) (codes "; ") c.args.rows.now c.loop-i.i c.index-rows-i.result _ _ _ _ _
    (omega arith) c.index-rows-i.is c.loop-i.invariant c.in_ok-push_separator.ensures c.in_ok-push_row.ensures
