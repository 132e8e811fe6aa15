use Rattle.std.proofs.Common.{◌≡◌, ◌++◌, take}
use Rattle.ct_transcript.specs.NodeText.{with_names, name_lines}
use Rattle.ct_transcript.proofs.rows.push_name_lines.Given as goal

abbrev pub invariant-loop-k : goal.invariant-loop-k
invariant-loop-k l =
    l.lines.items ≡ l.initial.lines.items ++ name_lines (take l.k (with_names l.nodes l.names))
