use Rattle.ct_parse.{proofs.TermSteps.passed, proofs.Listed.{both_read, no_first, no_second}, proofs.Combined.{led_read, led_never}}
use Rattle.ct_parse.proofs.QuerySteps.{selecting, distinct_pair, shown_pair, no_select}
use Rattle.ct_parse.proofs.queries.select.Goals as goal

pub returns-in_err-tail-clause-none : goal.returns-in_err-tail-clause-none
returns-in_err-tail-clause-none c = passed _ c.from_residual.ensures.1 (λ memory. no_select (c.in_err-tail.ensures.none memory) c.requires)

pub returns-in_err-items-clause-none : goal.returns-in_err-items-clause-none
returns-in_err-items-clause-none c =
    passed _ c.from_residual-in_err-items.ensures.1 (λ memory.
    led_never selecting c.in_ok-tail.ensures.ok (no_second distinct_pair c.distinct-is_distinct.ensures (no_first shown_pair (c.in_err-items.ensures.none memory))))

pub returns-in-Err-clause-none : goal.returns-in-Err-clause-none
returns-in-Err-clause-none c = λ memory. led_never selecting c.in_ok-tail.ensures.ok (no_second distinct_pair c.distinct-is_distinct.ensures (no_second shown_pair c.in_ok-items.ensures.ok (c.in-Err.ensures.none memory)))

pub returns-clause-ok : goal.returns-clause-ok
returns-clause-ok c = led_read selecting c.in_ok-tail.ensures.ok (both_read distinct_pair c.distinct-is_distinct.ensures (both_read shown_pair c.in_ok-items.ensures.ok c.in-Ok.ensures.ok))
