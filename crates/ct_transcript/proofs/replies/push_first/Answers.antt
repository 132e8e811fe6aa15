use Rattle.std.{proofs.Common.{◌++◌, ◌∙◌, ap, sym, append_assoc}, specs.Prelude.{codes, decimal, string_bytes}}
use Rattle.ct_transcript.proofs.replies.push_first.Goals as goal

pub returns-in_ok-write-in-Pending : goal.returns-in_ok-write-in-Pending
returns-in_ok-write-in-Pending c =
    rw c.in-Pending.is (c.in_ok-write-in-Pending.ensures.bytes
    ∙ ap (λ l. string_bytes c.args.out.now ++ (codes "pending at " ++ l)) (sym (append_assoc (decimal c.in-Pending.at) (codes " plus ") (decimal c.in-Pending.plus))))

pub returns-in_ok-write-in-Committed : goal.returns-in_ok-write-in-Committed
returns-in_ok-write-in-Committed c = rw c.in-Committed.is c.in_ok-write-in-Committed.ensures.bytes
