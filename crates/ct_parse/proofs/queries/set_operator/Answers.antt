use Rattle.ct_parse.proofs.QuerySteps.{union_read, except_read}
use Rattle.ct_parse.proofs.queries.set_operator.Goals as goal

pub returns-in-Some-clause-some : goal.returns-in-Some-clause-some
returns-in-Some-clause-some c = union_read c.in-Some.ensures.some

pub returns-in-Some-behind_word-clause-some : goal.returns-in-Some-behind_word-clause-some
returns-in-Some-behind_word-clause-some c = except_read c.in-Some-behind_word.ensures.some
