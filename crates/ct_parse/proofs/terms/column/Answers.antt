use Rattle.ct_parse.proofs.TermSteps.{plain_reads, qualified_reads, no_column_behind}
use Rattle.ct_parse.proofs.terms.column.Goals as goal

pub returns-in_default-clause-ok : goal.returns-in_default-clause-ok
returns-in_default-clause-ok c = plain_reads c.in_ok-first.ensures.ok c.in_default.ensures.none

pub returns-in-Err-clause-none : goal.returns-in-Err-clause-none
returns-in-Err-clause-none c = λ memory. no_column_behind c.in_ok-first.ensures.ok c.in-Some.ensures.some (c.in-Err.ensures.none memory)

pub returns-in-Ok-clause-ok : goal.returns-in-Ok-clause-ok
returns-in-Ok-clause-ok c = qualified_reads c.in_ok-first.ensures.ok c.in-Some.ensures.some c.in-Ok.ensures.ok
