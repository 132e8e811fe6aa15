use Rattle.ct_parse.{proofs.TermSteps.passed, proofs.Listed.{both_read, no_first, no_second}, proofs.Combined.{led_read, led_never}}
use Rattle.ct_parse.proofs.QuerySteps.{sourcing, source_pair, filter_reads, no_filter, no_from}
use Rattle.ct_parse.proofs.queries.source.Goals as goal

pub returns-in_err-tail-clause-none : goal.returns-in_err-tail-clause-none
returns-in_err-tail-clause-none c = passed _ c.from_residual.ensures.1 (λ memory. no_from (c.in_err-tail.ensures.none memory))

pub returns-in_err-tables-clause-none : goal.returns-in_err-tables-clause-none
returns-in_err-tables-clause-none c =
    passed _ c.from_residual-in_err-tables.ensures.1 (λ memory. led_never sourcing c.in_ok-tail.ensures.ok (no_first source_pair (c.in_err-tables.ensures.none memory)))

pub returns-in-Err-clause-none : goal.returns-in-Err-clause-none
returns-in-Err-clause-none c = λ memory. led_never sourcing c.in_ok-tail.ensures.ok (no_second source_pair c.in_ok-tables.ensures.ok (no_filter (c.in-Err.ensures.none memory)))

pub returns-in-Ok-clause-ok : goal.returns-in-Ok-clause-ok
returns-in-Ok-clause-ok c = led_read sourcing c.in_ok-tail.ensures.ok (both_read source_pair c.in_ok-tables.ensures.ok (filter_reads c.in-Ok.ensures.ok))
