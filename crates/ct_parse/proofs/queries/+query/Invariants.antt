use Rattle.std.proofs.Common.{◌+◌, ◌*◌, length}
use Rattle.ct_parse.{specs.Grammar.{said, ArePrimaries, AreTerms}, specs.Ends.{EndsQueryTerm, EndsQuery}, proofs.Listed.SoFar}
use Rattle.ct_parse.proofs.queries.+query.Given as goal

abbrev pub decreases-primary : goal.decreases-primary
decreases-primary l = 5 * length (said l.tokens.now)

abbrev pub decreases-primaries : goal.decreases-primaries
decreases-primaries l = 5 * length (said l.tokens.now) + 1

abbrev pub decreases-query_term : goal.decreases-query_term
decreases-query_term l = 5 * length (said l.tokens.now) + 2

abbrev pub decreases-query_terms : goal.decreases-query_terms
decreases-query_terms l = 5 * length (said l.tokens.now) + 3

abbrev pub decreases-query : goal.decreases-query
decreases-query l = 5 * length (said l.tokens.now) + 4

abbrev pub invariant-primaries-loop-tail : goal.invariant-primaries-loop-tail
invariant-primaries-loop-tail l = SoFar EndsQueryTerm ArePrimaries (said l.tokens) (said l.rest) l.found.items

abbrev pub decreases-primaries-loop-tail : goal.decreases-primaries-loop-tail
decreases-primaries-loop-tail l = length (said l.rest)

abbrev pub invariant-query_terms-loop-operator : goal.invariant-query_terms-loop-operator
invariant-query_terms-loop-operator l = SoFar EndsQuery AreTerms (said l.tokens) (said l.rest) l.found.items

abbrev pub decreases-query_terms-loop-operator : goal.decreases-query_terms-loop-operator
decreases-query_terms-loop-operator l = length (said l.rest)
