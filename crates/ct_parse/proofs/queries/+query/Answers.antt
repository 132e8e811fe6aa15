use Rattle.std.proofs.Common.{subst}
use Rattle.ct_parse.{specs.Grammar.{IsPrimary, IsQuery}, specs.Ends.EndsQueryTerm, proofs.TermSteps.passed}
use Rattle.ct_parse.proofs.Listed.{one_more, at_end, no_list, behind_reads, behind_never, both_read, no_first, no_second}
use Rattle.ct_parse.proofs.Combined.{CLOSE, led_read, led_never, then_read, no_then, not_then}
use Rattle.ct_parse.proofs.QuerySteps.{nesting, ends_at_paren, primary_list, no_intersect, term_pair, combined_pair, term_list, no_operator, query_pair, stands_operator}
use Rattle.ct_parse.proofs.queries.+query.Goals as goal

pub query-returns-in_err-first-clause-none : goal.query-returns-in_err-first-clause-none
query-returns-in_err-first-clause-none t c = passed _ c.from_residual.ensures.1 (λ memory. no_first query_pair (c.in_err-first.ensures.none memory))

pub query-returns-in-Ok-clause-ok : goal.query-returns-in-Ok-clause-ok
query-returns-in-Ok-clause-ok t c = both_read query_pair c.in_ok-first.ensures.ok c.in-Ok.ensures.ok

pub query-returns-in-Err-clause-none : goal.query-returns-in-Err-clause-none
query-returns-in-Err-clause-none t c = λ memory. no_second query_pair c.in_ok-first.ensures.ok (c.in-Err.ensures.none memory)

pub query_term-returns-in_err-first-clause-none : goal.query_term-returns-in_err-first-clause-none
query_term-returns-in_err-first-clause-none t c = passed _ c.from_residual.ensures.1 (λ memory. no_first term_pair (c.in_err-first.ensures.none memory))

pub query_term-returns-in-Ok-clause-ok : goal.query_term-returns-in-Ok-clause-ok
query_term-returns-in-Ok-clause-ok t c = both_read term_pair c.in_ok-first.ensures.ok c.in-Ok.ensures.ok

pub query_term-returns-in-Err-clause-none : goal.query_term-returns-in-Err-clause-none
query_term-returns-in-Err-clause-none t c = λ memory. no_second term_pair c.in_ok-first.ensures.ok (c.in-Err.ensures.none memory)

pub primary-returns-in_err-inner-clause-none : goal.primary-returns-in_err-inner-clause-none
primary-returns-in_err-inner-clause-none t c = passed _ c.from_residual.ensures.1 (λ memory. led_never nesting c.in-Some.ensures.some (no_then IsQuery CLOSE ends_at_paren (c.in_err-inner.ensures.none memory)))

pub primary-returns-in_err-nested-clause-none : goal.primary-returns-in_err-nested-clause-none
primary-returns-in_err-nested-clause-none t c =
    passed _ c.from_residual-in_err-nested.ensures.1 (λ memory. led_never nesting c.in-Some.ensures.some (not_then {X = IsQuery} CLOSE ends_at_paren c.in_ok-inner.ensures.ok (c.in_err-nested.ensures.none memory)))

pub primary-returns-clause-ok : goal.primary-returns-clause-ok
primary-returns-clause-ok t c = rw c.in_ok-nested.ensures.ok (led_read nesting c.in-Some.ensures.some (then_read CLOSE ends_at_paren c.in_ok-inner.ensures.ok c.in_ok-nested.ensures.behind))

pub primaries-returns-in_err-next-clause-none : goal.primaries-returns-in_err-next-clause-none
primaries-returns-in_err-next-clause-none t c =
    passed _ c.from_residual.ensures.1 (λ memory.
    no_list primary_list c.loop-tail.invariant (λ e. (subst EndsQueryTerm c.in-Some.ensures.some e).0) (behind_never IsPrimary c.in-Some.ensures.some (c.in_err-next.ensures.none memory)))

pub primaries-loop-tail-preserved : goal.primaries-loop-tail-preserved
primaries-loop-tail-preserved t c = one_more primary_list c.loop-tail.invariant (behind_reads c.in-Some.ensures.some c.in_ok-next.ensures.ok) c.in_ok-push.ensures.items

pub primaries-returns-clause-ok : goal.primaries-returns-clause-ok
primaries-returns-clause-ok t c = rw c.from_vec.ensures (at_end primary_list c.loop-tail.invariant (no_intersect c.in_default.ensures.none))

pub query_terms-returns-in_err-term-clause-none : goal.query_terms-returns-in_err-term-clause-none
query_terms-returns-in_err-term-clause-none t c =
    passed _ c.from_residual.ensures.1 (λ memory.
    no_list term_list c.loop-operator.invariant (λ e. stands_operator c.in-Some.ensures.some.is e.0) (no_second combined_pair c.in-Some.ensures.some (c.in_err-term.ensures.none memory)))

pub query_terms-loop-operator-preserved : goal.query_terms-loop-operator-preserved
query_terms-loop-operator-preserved t c = one_more term_list c.loop-operator.invariant (both_read combined_pair c.in-Some.ensures.some c.in_ok-term.ensures.ok) c.in_ok-push.ensures.items

pub query_terms-returns-clause-ok : goal.query_terms-returns-clause-ok
query_terms-returns-clause-ok t c = rw c.from_vec.ensures (at_end term_list c.loop-operator.invariant (no_operator c.in_default.ensures.none))
