use Rattle.ct_parse.{specs.Grammar.IsQuery, proofs.TermSteps.passed, proofs.QuerySteps.{ends_at_paren, enclosing, no_paren}}
use Rattle.ct_parse.proofs.Combined.{CLOSE, led_read, led_never, then_read, no_then, not_then}
use Rattle.ct_parse.proofs.queries.enclosed.Goals as goal

pub returns-in_err-tail-clause-none : goal.returns-in_err-tail-clause-none
returns-in_err-tail-clause-none c = passed _ c.from_residual.ensures.1 (λ memory. no_paren (c.in_err-tail.ensures.none memory))

pub returns-in_err-found-clause-none : goal.returns-in_err-found-clause-none
returns-in_err-found-clause-none c =
    passed _ c.from_residual-in_err-found.ensures.1 (λ memory. led_never enclosing c.in_ok-tail.ensures.ok (no_then IsQuery CLOSE ends_at_paren (c.in_err-found.ensures.none memory)))

pub returns-in_default-clause-none : goal.returns-in_default-clause-none
returns-in_default-clause-none c = λ memory. led_never enclosing c.in_ok-tail.ensures.ok (not_then {X = IsQuery} CLOSE ends_at_paren c.in_ok-found.ensures.ok c.in_default.ensures.none)

pub returns-clause-ok : goal.returns-clause-ok
returns-clause-ok c = led_read enclosing c.in_ok-tail.ensures.ok (then_read CLOSE ends_at_paren c.in_ok-found.ensures.ok c.in-Some.ensures.some)
