use Rattle.ct_parse.{proofs.TermSteps.passed, proofs.RowSteps.{closed_read, no_open, no_first_inside, no_more_inside, not_closed}}
use Rattle.ct_parse.proofs.rows.in_parentheses.Goals as goal

pub returns-in_err-tail-clause-none : goal.returns-in_err-tail-clause-none
returns-in_err-tail-clause-none g c = passed _ c.from_residual.ensures.1 (λ memory. no_open g.P.Part.spelled (c.in_err-tail.ensures.none memory))

pub returns-in_err-first-clause-none : goal.returns-in_err-first-clause-none
returns-in_err-first-clause-none g c = passed _ c.from_residual-in_err-first.ensures.1 (λ memory. no_first_inside g.P.Part.spelled c.in_ok-tail.ensures.ok (c.in_err-first.ensures.none memory))

pub returns-in-Err-clause-none : goal.returns-in-Err-clause-none
returns-in-Err-clause-none g c = λ memory. no_more_inside g.P.Part.spelled c.in_ok-tail.ensures.ok c.in_ok-first.ensures.ok (c.in-Err.ensures.none memory)

pub returns-in_default-clause-none : goal.returns-in_default-clause-none
returns-in_default-clause-none g c = λ memory. not_closed g.P.Part.spelled c.in_ok-tail.ensures.ok c.in_ok-first.ensures.ok c.in-Ok.ensures.ok c.in_default.ensures.none

pub returns-clause-ok : goal.returns-clause-ok
returns-clause-ok g c = closed_read g.P.Part.spelled c.in_ok-tail.ensures.ok c.in_ok-first.ensures.ok c.in-Ok.ensures.ok c.in-Some.ensures.some
