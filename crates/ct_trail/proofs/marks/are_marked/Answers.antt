use Rattle.std.proofs.Common.{length, pos}
use Rattle.ct_trail.proofs.Literals.{literal_at}
use Rattle.ct_trail.proofs.marks.are_marked.Goals as goal

pub mark_of-requires-clause-within : goal.mark_of-requires-clause-within
mark_of-requires-clause-within c =
    literal_at (length c.args.marks.now) c.args.clause.now c.loop-l.l-index (pos 0) c.requires.within c.loop-l-test.true
