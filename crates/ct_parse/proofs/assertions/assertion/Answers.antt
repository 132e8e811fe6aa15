use Rattle.std.specs.Prelude.{codes}
use Rattle.ct_parse.{specs.Grammar.said, proofs.TermSteps.passed, proofs.Combined.not_word}
use Rattle.ct_parse.proofs.AssertSteps.{exists_read, no_exists, not_exists_read, no_not_exists, OnlyCondition, condition_read, no_condition_read}
use Rattle.ct_parse.proofs.assertions.assertion.Goals.{In_default-behind_key}
use Rattle.ct_parse.proofs.assertions.assertion.Goals as goal

pub returns-in_err-query-clause-none : goal.returns-in_err-query-clause-none
returns-in_err-query-clause-none c = passed _ c.from_residual.ensures.1 (λ memory. no_exists c.in-Some.ensures.some (c.in_err-query.ensures.none memory))

pub returns-in-Some-clause-ok : goal.returns-in-Some-clause-ok
returns-in-Some-clause-ok c = exists_read c.in-Some.ensures.some c.in_ok-query.ensures.ok

pub returns-in_err-query-2-clause-none : goal.returns-in_err-query-2-clause-none
returns-in_err-query-2-clause-none c = passed _ c.from_residual-in_err-query-2.ensures.1 (λ memory. no_not_exists c.in-Some-behind_not_exists.ensures.some (c.in_err-query-2.ensures.none memory))

pub returns-in-Some-behind_not_exists-clause-ok : goal.returns-in-Some-behind_not_exists-clause-ok
returns-in-Some-behind_not_exists-clause-ok c = not_exists_read c.in-Some-behind_not_exists.ensures.some c.in_ok-query-2.ensures.ok

pub returns-in-Some-behind_key-clause-ok : goal.returns-in-Some-behind_key-clause-ok
returns-in-Some-behind_key-clause-ok c = rw c.in-Some-behind_key.ensures.some c.key.ensures.ok

pub returns-in-Some-behind_key-clause-none : goal.returns-in-Some-behind_key-clause-none
returns-in-Some-behind_key-clause-none c = rw c.in-Some-behind_key.ensures.some c.key.ensures.none

only : (c : In_default-behind_key) → OnlyCondition (said c.args.tokens.now)
only c = record {
  exists = not_word (codes "exists") c.in_default.ensures.none;
  not_exists = c.in_default-behind_not_exists.ensures.none;
  key = c.in_default-behind_key.ensures.none;
}

pub returns-in_err-found-clause-none : goal.returns-in_err-found-clause-none
returns-in_err-found-clause-none c =
    passed _ c.from_residual-in_err-found.ensures.1 (λ memory. no_condition_read (only (goal.at.returns-in_err-found-clause-none c).In_default-behind_key) (c.in_err-found.ensures.none memory))

pub returns-clause-ok : goal.returns-clause-ok
returns-clause-ok c = condition_read (only (goal.at.returns-clause-ok c).In_default-behind_key) c.in_ok-found.ensures.ok
