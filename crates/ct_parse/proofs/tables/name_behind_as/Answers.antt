use Rattle.ct_parse.{proofs.TermSteps.passed, proofs.Combined.{led_read, led_never}, proofs.TableSteps.{naming, no_as_read}}
use Rattle.ct_parse.proofs.tables.name_behind_as.Goals as goal

pub returns-in_default-clause-ok : goal.returns-in_default-clause-ok
returns-in_default-clause-ok c = no_as_read c.in_default.ensures.none

pub returns-in_err-found-clause-none : goal.returns-in_err-found-clause-none
returns-in_err-found-clause-none c = passed _ c.from_residual.ensures.1 (λ memory. led_never naming c.in-Some.ensures.some (c.in_err-found.ensures.none memory))

pub returns-clause-ok : goal.returns-clause-ok
returns-clause-ok c = led_read naming c.in-Some.ensures.some c.in_ok-found.ensures.ok
