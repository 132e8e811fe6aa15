use Rattle.std.proofs.Common.{length}
use Rattle.ct_parse.{specs.Grammar.{said, AreMore}, specs.Ends.EndsItems, proofs.Listed.SoFar}
use Rattle.ct_parse.proofs.rows.more.Given as goal

abbrev pub invariant-loop-tail : goal.invariant-loop-tail
invariant-loop-tail g l = SoFar EndsItems (AreMore g.P.Part.spelled) (said l.tokens) (said l.rest) l.found.items

abbrev pub decreases-loop-tail : goal.decreases-loop-tail
decreases-loop-tail g l = length (said l.rest)
