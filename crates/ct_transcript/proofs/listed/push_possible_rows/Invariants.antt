use Rattle.std.proofs.Common.{◌≡◌, ◌++◌, map, take}
use Rattle.ct_transcript.specs.Text.{possible_line}
use Rattle.ct_transcript.proofs.listed.push_possible_rows.Given as goal

abbrev pub invariant-loop-row : goal.invariant-loop-row
invariant-loop-row l = l.lines.items ≡ l.initial.lines.items ++ map possible_line (take l.row-index l.rows)
