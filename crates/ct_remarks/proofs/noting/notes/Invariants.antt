use Rattle.std.proofs.Common.{◌≤◌, length}
use Rattle.ct_remarks.proofs.noting.notes.Given as goal

abbrev pub invariant-loop-log : goal.invariant-loop-log
invariant-loop-log l = length l.lines.items ≤ 100
