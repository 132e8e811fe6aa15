use Rattle.std.proofs.Common.{◌≡◌, ◌++◌, map, take}
use Rattle.ct_transcript.specs.Text.{certain_line}
use Rattle.ct_transcript.proofs.listed.push_certain_rows.Given as goal

abbrev pub invariant-loop-row : goal.invariant-loop-row
invariant-loop-row l = l.lines.items ≡ l.initial.lines.items ++ map certain_line (take l.row-index l.rows)
