use Rattle.ct_checker.proofs.Chains.{linked_more}
use Rattle.ct_checker.proofs.marks.link.Goals as goal

pub returns : goal.returns
returns c = linked_more c.args.falses.now c.args.heads.now c.args.next.now c.args.literal.now c.requires.linked c.bucket-k.result c.bucket-k.ensures.value c.bucket-k.ensures.within c.requires.room
