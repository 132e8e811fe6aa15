use Rattle.ct_parse.{proofs.TermSteps.passed, proofs.StatementSteps.{no_table_word, no_create_name, no_columns, create_read}}
use Rattle.ct_parse.proofs.statements.create.Goals as goal

pub returns-in_err-tail-clause-none : goal.returns-in_err-tail-clause-none
returns-in_err-tail-clause-none c = passed _ c.from_residual.ensures.1 (λ memory. no_table_word (c.in_err-tail.ensures.none memory))

pub returns-in_err-name-clause-none : goal.returns-in_err-name-clause-none
returns-in_err-name-clause-none c = passed _ c.from_residual-in_err-name.ensures.1 (λ memory. no_create_name c.in_ok-tail.ensures.ok (c.in_err-name.ensures.none memory))

pub returns-in_err-first-clause-none : goal.returns-in_err-first-clause-none
returns-in_err-first-clause-none c =
    passed _ c.from_residual-in_err-first.ensures.1 (λ memory. no_columns c.in_ok-tail.ensures.ok c.in_ok-name.ensures.ok (c.in_err-first.ensures.none memory))

pub returns-clause-ok : goal.returns-clause-ok
returns-clause-ok c = create_read c.in_ok-tail.ensures.ok c.in_ok-name.ensures.ok c.in_ok-first.ensures.ok
