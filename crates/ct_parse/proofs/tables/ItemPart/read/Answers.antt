use Rattle.ct_parse.{proofs.TermSteps.passed, proofs.Listed.{both_read, no_first, no_second}, proofs.TableSteps.item_pair}
use Rattle.ct_parse.proofs.tables.ItemPart.read.Goals as goal

pub returns-in_err-column-clause-none : goal.returns-in_err-column-clause-none
returns-in_err-column-clause-none c = passed _ c.from_residual.ensures.1 (λ memory. no_first item_pair (c.in_err-column.ensures.none memory))

pub returns-in-Err-clause-none : goal.returns-in-Err-clause-none
returns-in-Err-clause-none c = λ memory. no_second item_pair c.in_ok-column.ensures.ok (c.in-Err.ensures.none memory)

pub returns-in-Ok-clause-ok : goal.returns-in-Ok-clause-ok
returns-in-Ok-clause-ok c = both_read item_pair c.in_ok-column.ensures.ok c.in-Ok.ensures.ok
