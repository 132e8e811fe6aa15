use Rattle.ct_parse.{proofs.TermSteps.passed, proofs.ConditionSteps.{true_read, false_read, compared_read, no_left, no_sign, no_right}}
use Rattle.ct_parse.proofs.conditions.plain_factor.Goals as goal

pub returns-in-Some-clause-ok : goal.returns-in-Some-clause-ok
returns-in-Some-clause-ok c = true_read c.in-Some.ensures.some

pub returns-in-Some-behind_word-clause-ok : goal.returns-in-Some-behind_word-clause-ok
returns-in-Some-behind_word-clause-ok c = false_read c.in-Some-behind_word.ensures.some

pub returns-in_err-left-clause-none : goal.returns-in_err-left-clause-none
returns-in_err-left-clause-none c =
    passed _ c.from_residual.ensures.1 (λ memory.
    no_left (record { not = c.requires.not; paren = c.requires.paren; true = c.in_default.ensures.none; false = c.in_default-behind_word.ensures.none }) (c.in_err-left.ensures.none memory))

pub returns-in-Err-clause-none : goal.returns-in-Err-clause-none
returns-in-Err-clause-none c = λ memory. no_sign c.in_ok-left.ensures.ok (c.in-Err.ensures.none memory)

pub returns-in-Err-term-clause-none : goal.returns-in-Err-term-clause-none
returns-in-Err-term-clause-none c = λ memory. no_right c.in_ok-left.ensures.ok c.in-Ok.ensures.ok (c.in-Err-term.ensures.none memory)

pub returns-in-Ok-term-clause-ok : goal.returns-in-Ok-term-clause-ok
returns-in-Ok-term-clause-ok c = compared_read c.in_ok-left.ensures.ok c.in-Ok.ensures.ok c.in-Ok-term.ensures.ok
