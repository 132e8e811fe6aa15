use Rattle.std.proofs.Common.{◌≡◌, ◌+◌, ◌++◌, drop}
use Rattle.ct_transcript.specs.Text.{replies_from}
use Rattle.ct_transcript.proofs.replies.push_replies.Given as goal

abbrev pub invariant-loop-i : goal.invariant-loop-i
invariant-loop-i l =
    l.lines.items ++ replies_from (l.i + 1) (drop l.i l.replies) ≡ l.initial.lines.items ++ replies_from 1 l.replies
