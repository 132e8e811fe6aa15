use Rattle.std.specs.Prelude.{codes}
use Rattle.ct_parse.{specs.Grammar.IsTable, proofs.TermSteps.passed, proofs.Listed.{both_read, no_first, no_second}}
use Rattle.ct_parse.{proofs.Combined.{not_word, then_read, no_then, not_then, renamed, no_renamed}, proofs.TableSteps.{ON, on_pair, on_is, ends_at_on}}
use Rattle.ct_parse.proofs.tables.table_on.Goals as goal

pub returns-in_err-table-clause-none : goal.returns-in_err-table-clause-none
returns-in_err-table-clause-none c =
    passed _ c.from_residual.ensures.1 (λ memory. no_renamed (on_is _) (no_first on_pair (no_then IsTable ON ends_at_on (c.in_err-table.ensures.none memory))))

pub returns-in_default-clause-none : goal.returns-in_default-clause-none
returns-in_default-clause-none c = λ memory. no_renamed (on_is _) (no_first on_pair (not_then ON ends_at_on c.in_ok-table.ensures.ok (not_word (codes "on") c.in_default.ensures.none)))

pub returns-in-Err-clause-none : goal.returns-in-Err-clause-none
returns-in-Err-clause-none c = λ memory. no_renamed (on_is _) (no_second on_pair (then_read ON ends_at_on c.in_ok-table.ensures.ok c.in-Some.ensures.some) (c.in-Err.ensures.none memory))

pub returns-in-Ok-clause-ok : goal.returns-in-Ok-clause-ok
returns-in-Ok-clause-ok c = renamed (on_is _) (both_read on_pair (then_read ON ends_at_on c.in_ok-table.ensures.ok c.in-Some.ensures.some) c.in-Ok.ensures.ok)
