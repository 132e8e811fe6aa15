use Rattle.ct_parse.{proofs.TermSteps.passed, proofs.StatementSteps.{no_delete_from, no_delete_name, no_delete_condition, delete_read}}
use Rattle.ct_parse.proofs.statements.delete.Goals as goal

pub returns-in_err-tail-clause-none : goal.returns-in_err-tail-clause-none
returns-in_err-tail-clause-none c = passed _ c.from_residual.ensures.1 (λ memory. no_delete_from (c.in_err-tail.ensures.none memory))

pub returns-in_err-name-clause-none : goal.returns-in_err-name-clause-none
returns-in_err-name-clause-none c = passed _ c.from_residual-in_err-name.ensures.1 (λ memory. no_delete_name c.in_ok-tail.ensures.ok (c.in_err-name.ensures.none memory))

pub returns-in-Err-clause-none : goal.returns-in-Err-clause-none
returns-in-Err-clause-none c = λ memory. no_delete_condition c.in_ok-tail.ensures.ok c.in_ok-name.ensures.ok (c.in-Err.ensures.none memory)

pub returns-in-Ok-clause-ok : goal.returns-in-Ok-clause-ok
returns-in-Ok-clause-ok c = delete_read c.in_ok-tail.ensures.ok c.in_ok-name.ensures.ok c.in-Ok.ensures.ok
