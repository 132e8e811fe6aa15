use Rattle.std.proofs.Common.{◌≡◌, ◌++◌, take}
use Rattle.ct_transcript.{specs.NodeText.with_names, specs.Text.answer_row_lines}
use Rattle.ct_transcript.proofs.replies.push_row_lines.Given as goal

abbrev pub invariant-loop-row : goal.invariant-loop-row
invariant-loop-row l =
    l.lines.items ≡ l.initial.lines.items ++ answer_row_lines l.nodes (with_names l.nodes l.names) (take l.row-index l.rows)
