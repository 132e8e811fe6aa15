use Rattle.ct_parse.proofs.QuerySteps.{distinct_read, not_distinct_read}
use Rattle.ct_parse.proofs.queries.distinct.Goals as goal

pub returns-in-Some : goal.returns-in-Some
returns-in-Some c = distinct_read c.in-Some.ensures.some

pub returns-in-None : goal.returns-in-None
returns-in-None c = not_distinct_read c.in-None.ensures.none
