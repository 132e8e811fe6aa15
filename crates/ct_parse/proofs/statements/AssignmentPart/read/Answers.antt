use Rattle.ct_parse.{proofs.TermSteps.passed, proofs.StatementSteps.{no_assigned, no_equal, no_value, assignment_read}}
use Rattle.ct_parse.proofs.statements.AssignmentPart.read.Goals as goal

pub returns-in_err-column-clause-none : goal.returns-in_err-column-clause-none
returns-in_err-column-clause-none c = passed _ c.from_residual.ensures.1 (λ memory. no_assigned (c.in_err-column.ensures.none memory))

pub returns-in_err-tail-clause-none : goal.returns-in_err-tail-clause-none
returns-in_err-tail-clause-none c = passed _ c.from_residual-in_err-tail.ensures.1 (λ memory. no_equal c.in_ok-column.ensures.ok (c.in_err-tail.ensures.none memory))

pub returns-in-Err-clause-none : goal.returns-in-Err-clause-none
returns-in-Err-clause-none c = λ memory. no_value c.in_ok-column.ensures.ok c.in_ok-tail.ensures.ok (c.in-Err.ensures.none memory)

pub returns-in-Ok-clause-ok : goal.returns-in-Ok-clause-ok
returns-in-Ok-clause-ok c = assignment_read c.in_ok-column.ensures.ok c.in_ok-tail.ensures.ok c.in-Ok.ensures.ok
