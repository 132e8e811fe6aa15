use Rattle.ct_parse.proofs.TermSteps.{passed}
use Rattle.ct_parse.proofs.StatementSteps.{no_into, no_insert_name, no_inserted_query, insert_query_read, no_row, no_more_rows, no_if, insert_rows_read}
use Rattle.ct_parse.proofs.statements.insert.Goals as goal

pub returns-in_err-tail-clause-none : goal.returns-in_err-tail-clause-none
returns-in_err-tail-clause-none c = passed _ c.from_residual.ensures.1 (λ memory. no_into (c.in_err-tail.ensures.none memory))

pub returns-in_err-name-clause-none : goal.returns-in_err-name-clause-none
returns-in_err-name-clause-none c = passed _ c.from_residual-in_err-name.ensures.1 (λ memory. no_insert_name c.in_ok-tail.ensures.ok (c.in_err-name.ensures.none memory))

pub returns-in-Err-clause-none : goal.returns-in-Err-clause-none
returns-in-Err-clause-none c = λ memory. no_inserted_query c.in_ok-tail.ensures.ok c.in_ok-name.ensures.ok c.in_default.ensures.none (c.in-Err.ensures.none memory)

pub returns-in-Ok-clause-ok : goal.returns-in-Ok-clause-ok
returns-in-Ok-clause-ok c = insert_query_read c.in_ok-tail.ensures.ok c.in_ok-name.ensures.ok c.in_default.ensures.none c.in-Ok.ensures.ok

pub returns-in_err-first-clause-none : goal.returns-in_err-first-clause-none
returns-in_err-first-clause-none c =
    passed _ c.from_residual-in_err-first.ensures.1 (λ memory. no_row c.in_ok-tail.ensures.ok c.in_ok-name.ensures.ok c.in-Some.ensures.some (c.in_err-first.ensures.none memory))

pub returns-in-Err-more-clause-none : goal.returns-in-Err-more-clause-none
returns-in-Err-more-clause-none c = λ memory. no_more_rows c.in_ok-tail.ensures.ok c.in_ok-name.ensures.ok c.in-Some.ensures.some c.in_ok-first.ensures.ok (c.in-Err-more.ensures.none memory)

pub returns-in-Err-condition_behind-clause-none : goal.returns-in-Err-condition_behind-clause-none
returns-in-Err-condition_behind-clause-none c =
    λ memory. no_if c.in_ok-tail.ensures.ok c.in_ok-name.ensures.ok c.in-Some.ensures.some c.in_ok-first.ensures.ok c.in-Ok-more.ensures.ok (c.in-Err-condition_behind.ensures.none memory)

pub returns-clause-ok : goal.returns-clause-ok
returns-clause-ok c =
    insert_rows_read c.in_ok-tail.ensures.ok c.in_ok-name.ensures.ok c.in-Some.ensures.some c.in_ok-first.ensures.ok c.in-Ok-more.ensures.ok c.in-Ok-condition_behind.ensures.ok
