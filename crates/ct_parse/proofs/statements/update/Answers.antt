use Rattle.std.{proofs.Common.refl, specs.Prelude.codes}
use Rattle.ct_parse.{specs.Grammar.IsAssignment, proofs.TermSteps.passed, proofs.Combined.{led_read, led_never}}
use Rattle.ct_parse.proofs.StatementSteps.{updating, apart_from_where, no_group_name, no_group_word, no_part, no_more_parts, no_group_condition, grouped_read}
use Rattle.ct_parse.proofs.statements.update.Goals as goal

pub returns-in_err-name-clause-none : goal.returns-in_err-name-clause-none
returns-in_err-name-clause-none c =
    passed _ c.from_residual.ensures.1 (λ memory. led_never updating refl (no_group_name IsAssignment (codes "set") (codes "where") apart_from_where (c.in_err-name.ensures.none memory)))

pub returns-in_err-tail-clause-none : goal.returns-in_err-tail-clause-none
returns-in_err-tail-clause-none c =
    passed _ c.from_residual-in_err-tail.ensures.1 (λ memory.
    led_never updating refl (no_group_word IsAssignment (codes "set") (codes "where") apart_from_where c.in_ok-name.ensures.ok (c.in_err-tail.ensures.none memory)))

pub returns-in_err-first-clause-none : goal.returns-in_err-first-clause-none
returns-in_err-first-clause-none c =
    passed _ c.from_residual-in_err-first.ensures.1 (λ memory.
    led_never updating refl (no_part IsAssignment (codes "set") (codes "where") apart_from_where c.in_ok-name.ensures.ok c.in_ok-tail.ensures.ok (c.in_err-first.ensures.none memory)))

pub returns-in-Err-clause-none : goal.returns-in-Err-clause-none
returns-in-Err-clause-none c =
    λ memory. led_never updating refl (no_more_parts IsAssignment (codes "set") (codes "where") apart_from_where c.in_ok-name.ensures.ok c.in_ok-tail.ensures.ok c.in_ok-first.ensures.ok
    (c.in-Err.ensures.none memory))

pub returns-in-Err-condition_behind-clause-none : goal.returns-in-Err-condition_behind-clause-none
returns-in-Err-condition_behind-clause-none c =
    λ memory. led_never updating refl (no_group_condition IsAssignment (codes "set") (codes "where") apart_from_where c.in_ok-name.ensures.ok c.in_ok-tail.ensures.ok c.in_ok-first.ensures.ok
    c.in-Ok.ensures.ok (c.in-Err-condition_behind.ensures.none memory))

pub returns-clause-ok : goal.returns-clause-ok
returns-clause-ok c =
    led_read updating refl (grouped_read IsAssignment (codes "set") (codes "where") apart_from_where c.in_ok-name.ensures.ok c.in_ok-tail.ensures.ok c.in_ok-first.ensures.ok c.in-Ok.ensures.ok
    c.in-Ok-condition_behind.ensures.ok)
