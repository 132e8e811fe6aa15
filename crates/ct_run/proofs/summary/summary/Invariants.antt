use Rattle.std.proofs.Common.{◌≡◌, ◌+◌, ◌++◌, drop}
use Rattle.ct_run.specs.Summary.{session_lines}
use Rattle.ct_run.proofs.summary.summary.Given as goal

abbrev pub invariant-loop-i : goal.invariant-loop-i
invariant-loop-i l =
    l.lines.items ++ session_lines (l.i + 1) (drop l.i l.sessions) ≡ l.initial.lines.items ++ session_lines 1 l.sessions
