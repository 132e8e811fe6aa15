use Rattle.ct_parse.{proofs.TermSteps.passed, proofs.Listed.{both_read, no_first, no_second}, proofs.TableSteps.table_pair}
use Rattle.ct_parse.proofs.tables.table.Goals as goal

pub returns-in_err-name-clause-none : goal.returns-in_err-name-clause-none
returns-in_err-name-clause-none c = passed _ c.from_residual.ensures.1 (λ memory. no_first table_pair (c.in_err-name.ensures.none memory))

pub returns-in-Err-clause-none : goal.returns-in-Err-clause-none
returns-in-Err-clause-none c = λ memory. no_second table_pair c.in_ok-name.ensures.ok (c.in-Err.ensures.none memory)

pub returns-in-Ok-clause-ok : goal.returns-in-Ok-clause-ok
returns-in-Ok-clause-ok c = both_read table_pair c.in_ok-name.ensures.ok c.in-Ok.ensures.ok
