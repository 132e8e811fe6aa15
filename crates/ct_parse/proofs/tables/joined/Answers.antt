use Rattle.ct_parse.{proofs.TermSteps.passed, proofs.Listed.behind_reads, proofs.Combined.{led_read, led_never}}
use Rattle.ct_parse.proofs.TableSteps.{comma_led, join_led, inner_led}
use Rattle.ct_parse.proofs.tables.joined.Goals as goal

pub returns-in_err-table-clause-none : goal.returns-in_err-table-clause-none
returns-in_err-table-clause-none c = passed _ c.from_residual.ensures.1 (λ memory. led_never comma_led c.in-Some.ensures.some (c.in_err-table.ensures.none memory))

pub returns-in-Some-clause-ok : goal.returns-in-Some-clause-ok
returns-in-Some-clause-ok c = led_read comma_led c.in-Some.ensures.some c.in_ok-table.ensures.ok

pub returns-in_err-table-2-clause-none : goal.returns-in_err-table-2-clause-none
returns-in_err-table-2-clause-none c = passed _ c.from_residual-in_err-table-2.ensures.1 (λ memory. led_never join_led c.in-Some-behind_word.ensures.some (c.in_err-table-2.ensures.none memory))

pub returns-in-Some-behind_word-clause-ok : goal.returns-in-Some-behind_word-clause-ok
returns-in-Some-behind_word-clause-ok c = led_read join_led c.in-Some-behind_word.ensures.some c.in_ok-table-2.ensures.ok

pub returns-clause-ok : goal.returns-clause-ok
returns-clause-ok c = led_read inner_led c.in_ok-tail.ensures.ok (behind_reads c.in_ok-tail-2.ensures.ok c.in_ok-table-3.ensures.ok)
