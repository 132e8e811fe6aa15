use Rattle.std.proofs.Common.{ap, ◌++◌}
use Rattle.ct_arena.proofs.keepers.listed.Goals as goal

pub follow-requires-clause-longer : goal.follow-requires-clause-longer
follow-requires-clause-longer c = (c.args.words.now, ap (λ v. v.words ++ c.args.words.now) c.in_ok-list.ensures)
