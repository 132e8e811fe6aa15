use Rattle.std.proofs.Common.{append_assoc}
use Rattle.ct_remarks.proofs.heads.push_head.Goals as goal

pub returns : goal.returns
returns c =
    rw (c.in_ok-write.ensures.bytes, c.in_ok-push_session_name.ensures, c.refusal_name-name.ensures, c.requires.line, c.requires.column) (simp append_assoc)
