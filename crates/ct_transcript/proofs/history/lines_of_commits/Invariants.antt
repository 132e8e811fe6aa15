use Rattle.std.proofs.Common.{◌≡◌, ◌+◌, ◌++◌, drop}
use Rattle.ct_transcript.specs.Text.{commits_from}
use Rattle.ct_transcript.proofs.history.lines_of_commits.Given as goal

abbrev pub invariant-loop-i : goal.invariant-loop-i
invariant-loop-i l =
    l.lines.items ++ commits_from (l.first + l.i) (drop l.i l.commits) ≡ commits_from l.first l.commits
