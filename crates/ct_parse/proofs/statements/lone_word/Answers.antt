use Rattle.ct_parse.proofs.StatementSteps.{begin_read, commit_read, rollback_read}
use Rattle.ct_parse.proofs.statements.lone_word.Goals as goal

pub returns-in-Some-clause-some : goal.returns-in-Some-clause-some
returns-in-Some-clause-some c = begin_read c.in-Some.ensures.some

pub returns-in-Some-behind_word-clause-some : goal.returns-in-Some-behind_word-clause-some
returns-in-Some-behind_word-clause-some c = commit_read c.in-Some-behind_word.ensures.some

pub returns-in-Some-behind_word-2-clause-some : goal.returns-in-Some-behind_word-2-clause-some
returns-in-Some-behind_word-2-clause-some c = rollback_read c.in-Some-behind_word-2.ensures.some
