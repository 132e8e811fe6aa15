use Rattle.std.{proofs.Common.{◌≡◌, ◌++◌, take}, specs.Prelude.{codes, string_bytes}, specs.List.join_by}
use Rattle.ct_transcript.{specs.NodeText.with_names, specs.Text.row_text}
use Rattle.ct_transcript.proofs.rows.push_joined_rows.Given as goal

abbrev pub invariant-loop-i : goal.invariant-loop-i
invariant-loop-i l =
    string_bytes l.out ≡ string_bytes l.initial.out ++ join_by (row_text l.nodes (with_names l.nodes l.names)) (codes "; ") (take l.i l.rows)
