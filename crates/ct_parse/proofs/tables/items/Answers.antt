use Rattle.ct_parse.{proofs.TermSteps.passed, proofs.Listed.{both_read, no_first, no_second}, proofs.Combined.{listed_pair, renamed, no_renamed}}
use Rattle.ct_parse.{specs.Grammar.IsItem, proofs.TableSteps.{star_read, listed_is}}
use Rattle.ct_parse.proofs.tables.items.Goals as goal

pub returns-in-Some-clause-ok : goal.returns-in-Some-clause-ok
returns-in-Some-clause-ok c = star_read c.in-Some.ensures.some

pub returns-in_err-first-clause-none : goal.returns-in_err-first-clause-none
returns-in_err-first-clause-none c =
    passed _ c.from_residual.ensures.1 (λ memory. no_renamed (listed_is c.in_default.ensures.none) (no_first (listed_pair IsItem) (c.in_err-first.ensures.none memory)))

pub returns-in-Err-clause-none : goal.returns-in-Err-clause-none
returns-in-Err-clause-none c = λ memory. no_renamed (listed_is c.in_default.ensures.none) (no_second (listed_pair IsItem) c.in_ok-first.ensures.ok (c.in-Err.ensures.none memory))

pub returns-in-Ok-clause-ok : goal.returns-in-Ok-clause-ok
returns-in-Ok-clause-ok c = renamed (listed_is c.in_default.ensures.none) (both_read (listed_pair IsItem) c.in_ok-first.ensures.ok c.in-Ok.ensures.ok)
