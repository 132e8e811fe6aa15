use Rattle.std.proofs.Common.{length}
use Rattle.ct_parse.{specs.Grammar.{said, AreJoined}, specs.Ends.EndsTables, proofs.Listed.SoFar}
use Rattle.ct_parse.proofs.tables.more_joined.Given as goal

abbrev pub invariant-loop-alloc : goal.invariant-loop-alloc
invariant-loop-alloc l = SoFar EndsTables AreJoined (said l.tokens) (said l.rest) l.found.items

abbrev pub decreases-loop-alloc : goal.decreases-loop-alloc
decreases-loop-alloc l = length (said l.rest)
