use Rattle.std.proofs.Common.{rules}
use Rattle.ct_parse.{proofs.TermSteps.passed, proofs.Combined.{led_read, led_never}, proofs.TableSteps.{aliasing, alias_read, no_alias_read}}
use Rattle.ct_parse.proofs.tables.alias.Goals as goal

pub returns-in_err-name-clause-none : goal.returns-in_err-name-clause-none
returns-in_err-name-clause-none c = passed _ c.from_residual.ensures.1 (λ memory. led_never aliasing c.in-Some.ensures.some (c.in_err-name.ensures.none memory))

pub returns-in-Some-clause-ok : goal.returns-in-Some-clause-ok
returns-in-Some-clause-ok c = led_read aliasing c.in-Some.ensures.some c.in_ok-name.ensures.ok

pub returns-in-Ok-clause-ok : goal.returns-in-Ok-clause-ok
returns-in-Ok-clause-ok c = alias_read c.in-Ok.ensures.ok

pub returns-in-Err-NotSpelled-clause-ok : goal.returns-in-Err-NotSpelled-clause-ok
returns-in-Err-NotSpelled-clause-ok c = no_alias_read c.in_default.ensures.none (c.in-Err-NotSpelled.ensures.none (search rules))
