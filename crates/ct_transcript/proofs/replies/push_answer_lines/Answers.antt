use Rattle.std.proofs.lemmas.Result.{on_ok_weaker}
use Rattle.ct_transcript.proofs.Prints.{answer_written}
use Rattle.ct_transcript.proofs.replies.push_answer_lines.Goals as goal

pub returns : goal.returns
returns c =
    on_ok_weaker c.push_row_lines.result
    (answer_written c.args.answer.now c.as_slice-nodes.result.now c.args.names.now c.as_slice.result.now c.args.lines.now.items c.push_name_lines.new.lines.items c.push_global_line.new.lines.items
    c.push_row_lines.new.lines.items c.as_slice-nodes.ensures c.as_slice.ensures c.in_ok-push_name_lines.ensures c.in_ok-push_global_line.ensures) c.push_row_lines.ensures
