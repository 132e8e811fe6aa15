use Rattle.std.proofs.Common.{arith}
use Rattle.ct_parse.{proofs.TermSteps.passed, proofs.TableSteps.{tables_read, too_many, no_first_table, no_more_tables}}
use Rattle.ct_parse.proofs.tables.tables.Goals as goal

pub returns-in_err-first-clause-none : goal.returns-in_err-first-clause-none
returns-in_err-first-clause-none c = passed _ c.from_residual.ensures.1 (λ memory. no_first_table (c.in_err-first.ensures.none memory))

pub returns-in-Err-clause-none : goal.returns-in-Err-clause-none
returns-in-Err-clause-none c = λ memory. no_more_tables c.in_ok-first.ensures.ok (c.in-Err.ensures.none memory)

pub returns-clause-ok : goal.returns-clause-ok
returns-clause-ok c = tables_read c.in_ok-first.ensures.ok c.in-Ok.ensures.ok (omega (arith, c.if-len-gt-MORE_TABLES.false, c.len.ensures))

pub returns-then-len-gt-MORE_TABLES-clause-none : goal.returns-then-len-gt-MORE_TABLES-clause-none
returns-then-len-gt-MORE_TABLES-clause-none c = λ memory. too_many c.in_ok-first.ensures.ok c.in-Ok.ensures.ok (omega (arith, c.if-len-gt-MORE_TABLES.true, c.len.ensures))
