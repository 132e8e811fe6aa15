use Rattle.std.proofs.Common.{◌≡◌, ◌+◌, ◌++◌, drop}
use Rattle.ct_transcript.specs.Text.{sessions_from}
use Rattle.ct_transcript.proofs.sessions.lines_of_sessions.Given as goal

abbrev pub invariant-loop-i : goal.invariant-loop-i
invariant-loop-i l =
    l.lines.items ++ sessions_from (l.first + l.i) (drop l.i l.sessions) ≡ sessions_from l.first l.sessions
