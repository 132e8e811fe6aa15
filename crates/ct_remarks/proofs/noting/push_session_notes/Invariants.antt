use Rattle.std.proofs.Common.{◌≤◌, length}
use Rattle.ct_remarks.proofs.noting.push_session_notes.Given as goal

abbrev pub invariant-loop-text : goal.invariant-loop-text
invariant-loop-text l = length l.lines.items ≤ 100
