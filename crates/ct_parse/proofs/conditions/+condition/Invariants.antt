use Rattle.std.proofs.Common.{◌+◌, ◌*◌, length}
use Rattle.ct_parse.{specs.Grammar.{said, AreFactors, AreConjunctions}, specs.Ends.{EndsConjunction, EndsCondition}, proofs.Listed.SoFar}
use Rattle.ct_parse.proofs.conditions.+condition.Given as goal

abbrev pub decreases-factor : goal.decreases-factor
decreases-factor l = 5 * length (said l.tokens.now)

abbrev pub decreases-factors : goal.decreases-factors
decreases-factors l = 5 * length (said l.tokens.now) + 1

abbrev pub decreases-conjunction : goal.decreases-conjunction
decreases-conjunction l = 5 * length (said l.tokens.now) + 2

abbrev pub decreases-conjunctions : goal.decreases-conjunctions
decreases-conjunctions l = 5 * length (said l.tokens.now) + 3

abbrev pub decreases-condition : goal.decreases-condition
decreases-condition l = 5 * length (said l.tokens.now) + 4

abbrev pub invariant-factors-loop-tail : goal.invariant-factors-loop-tail
invariant-factors-loop-tail l = SoFar EndsConjunction AreFactors (said l.tokens) (said l.rest) l.found.items

abbrev pub decreases-factors-loop-tail : goal.decreases-factors-loop-tail
decreases-factors-loop-tail l = length (said l.rest)

abbrev pub invariant-conjunctions-loop-tail : goal.invariant-conjunctions-loop-tail
invariant-conjunctions-loop-tail l = SoFar EndsCondition AreConjunctions (said l.tokens) (said l.rest) l.found.items

abbrev pub decreases-conjunctions-loop-tail : goal.decreases-conjunctions-loop-tail
decreases-conjunctions-loop-tail l = length (said l.rest)
