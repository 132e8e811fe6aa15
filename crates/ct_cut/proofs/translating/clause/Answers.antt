use Rattle.std.proofs.Common.{length, pos}
use Rattle.ct_trail.proofs.Literals.{literal_at}
use Rattle.ct_cut.proofs.translating.clause.Goals as goal

pub literal-requires : goal.literal-requires
literal-requires c = literal_at (length c.args.atoms.now) c.args.literals.now c.loop-l.l-index (pos 0) c.requires c.loop-l-test.true
