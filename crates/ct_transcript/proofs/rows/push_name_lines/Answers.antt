use Rattle.std.proofs.Common.{arith}
use Rattle.ct_transcript.{specs.NodeText.with_names, proofs.Prints.{lines_more, lines_all}}
use Rattle.ct_transcript.proofs.rows.push_name_lines.Goals as goal

pub loop-k-preserved : goal.loop-k-preserved
loop-k-preserved c =
    lines_more (with_names c.args.nodes.now c.args.names.now) c.loop-k.k _ _ _ c.loop-k.invariant c.in_ok-push_name_line.ensures

pub returns : goal.returns
returns c = lines_all c.args.nodes.now c.args.names.now c.loop-k.k _ _ (omega arith) c.loop-k.invariant
