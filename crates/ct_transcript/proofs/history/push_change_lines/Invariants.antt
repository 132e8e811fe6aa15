use Rattle.std.proofs.Common.{◌≡◌, ◌++◌, take}
use Rattle.ct_transcript.{specs.NodeText.with_names, specs.Text.change_lines}
use Rattle.ct_transcript.proofs.history.push_change_lines.Given as goal

abbrev pub invariant-loop-change : goal.invariant-loop-change
invariant-loop-change l =
    l.lines.items ≡ l.initial.lines.items ++ change_lines l.nodes (with_names l.nodes l.names) (take l.change-index l.changes)
