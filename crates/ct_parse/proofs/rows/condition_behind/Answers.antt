use Rattle.ct_parse.{proofs.TermSteps.passed, proofs.Combined.{led_read, led_never, condition_led, has_none_read}}
use Rattle.ct_parse.proofs.rows.condition_behind.Goals as goal

pub returns-in_default-clause-ok : goal.returns-in_default-clause-ok
returns-in_default-clause-ok c = has_none_read c.in_default.ensures.none

pub returns-in_err-found-clause-none : goal.returns-in_err-found-clause-none
returns-in_err-found-clause-none c = passed _ c.from_residual.ensures.1 (λ memory. led_never (condition_led _) c.in-Some.ensures.some (c.in_err-found.ensures.none memory))

pub returns-clause-ok : goal.returns-clause-ok
returns-clause-ok c = led_read (condition_led _) c.in-Some.ensures.some c.in_ok-found.ensures.ok
