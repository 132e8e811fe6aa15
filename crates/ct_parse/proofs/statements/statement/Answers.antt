use Rattle.ct_parse.{specs.Grammar.said, proofs.TermSteps.passed, proofs.Combined.{led_read, led_never}}
use Rattle.ct_parse.proofs.StatementSteps.{OnlyQuery, asking_possible, asking_certain, rows_read, no_query}
use Rattle.ct_parse.proofs.statements.statement.Goals.{In_default-behind_word-7}
use Rattle.ct_parse.proofs.statements.statement.Goals as goal

pub returns-in-Some-behind_word-clause-ok : goal.returns-in-Some-behind_word-clause-ok
returns-in-Some-behind_word-clause-ok c = rw c.in-Some-behind_word.ensures.some c.create.ensures.ok

pub returns-in-Some-behind_word-clause-none : goal.returns-in-Some-behind_word-clause-none
returns-in-Some-behind_word-clause-none c = rw c.in-Some-behind_word.ensures.some c.create.ensures.none

pub returns-in-Some-behind_word-2-clause-ok : goal.returns-in-Some-behind_word-2-clause-ok
returns-in-Some-behind_word-2-clause-ok c = rw c.in-Some-behind_word-2.ensures.some c.insert.ensures.ok

pub returns-in-Some-behind_word-2-clause-none : goal.returns-in-Some-behind_word-2-clause-none
returns-in-Some-behind_word-2-clause-none c = rw c.in-Some-behind_word-2.ensures.some c.insert.ensures.none

pub returns-in-Some-behind_word-3-clause-ok : goal.returns-in-Some-behind_word-3-clause-ok
returns-in-Some-behind_word-3-clause-ok c = rw c.in-Some-behind_word-3.ensures.some c.delete.ensures.ok

pub returns-in-Some-behind_word-3-clause-none : goal.returns-in-Some-behind_word-3-clause-none
returns-in-Some-behind_word-3-clause-none c = rw c.in-Some-behind_word-3.ensures.some c.delete.ensures.none

pub returns-in-Some-behind_word-4-clause-ok : goal.returns-in-Some-behind_word-4-clause-ok
returns-in-Some-behind_word-4-clause-ok c = rw c.in-Some-behind_word-4.ensures.some c.update.ensures.ok

pub returns-in-Some-behind_word-4-clause-none : goal.returns-in-Some-behind_word-4-clause-none
returns-in-Some-behind_word-4-clause-none c = rw c.in-Some-behind_word-4.ensures.some c.update.ensures.none

pub returns-in-Some-behind_word-5-clause-ok : goal.returns-in-Some-behind_word-5-clause-ok
returns-in-Some-behind_word-5-clause-ok c = rw c.in-Some-behind_word-5.ensures.some c.assertion.ensures.ok

pub returns-in-Some-behind_word-5-clause-none : goal.returns-in-Some-behind_word-5-clause-none
returns-in-Some-behind_word-5-clause-none c = rw c.in-Some-behind_word-5.ensures.some c.assertion.ensures.none

pub returns-in_err-found-clause-none : goal.returns-in_err-found-clause-none
returns-in_err-found-clause-none c = passed _ c.from_residual.ensures.1 (λ memory. led_never asking_possible c.in-Some-behind_word-6.ensures.some (c.in_err-found.ensures.none memory))

pub returns-in-Some-behind_word-6-clause-ok : goal.returns-in-Some-behind_word-6-clause-ok
returns-in-Some-behind_word-6-clause-ok c = led_read asking_possible c.in-Some-behind_word-6.ensures.some c.in_ok-found.ensures.ok

pub returns-in_err-found-2-clause-none : goal.returns-in_err-found-2-clause-none
returns-in_err-found-2-clause-none c = passed _ c.from_residual-in_err-found-2.ensures.1 (λ memory. led_never asking_certain c.in-Some-behind_word-7.ensures.some (c.in_err-found-2.ensures.none memory))

pub returns-in-Some-behind_word-7-clause-ok : goal.returns-in-Some-behind_word-7-clause-ok
returns-in-Some-behind_word-7-clause-ok c = led_read asking_certain c.in-Some-behind_word-7.ensures.some c.in_ok-found-2.ensures.ok

only_query : (c : In_default-behind_word-7) → OnlyQuery (said c.args.tokens.now)
only_query c = record {
  lone = c.in_default.ensures.none;
  create = c.in_default-behind_word.ensures.none;
  insert = c.in_default-behind_word-2.ensures.none;
  delete = c.in_default-behind_word-3.ensures.none;
  update = c.in_default-behind_word-4.ensures.none;
  assert = c.in_default-behind_word-5.ensures.none;
  possible = c.in_default-behind_word-6.ensures.none;
  certain = c.in_default-behind_word-7.ensures.none;
}

pub returns-in_err-found-3-clause-none : goal.returns-in_err-found-3-clause-none
returns-in_err-found-3-clause-none c =
    passed _ c.from_residual-in_err-found-3.ensures.1 (λ memory. no_query (only_query (goal.at.returns-in_err-found-3-clause-none c).In_default-behind_word-7) (c.in_err-found-3.ensures.none memory))

pub returns-clause-ok : goal.returns-clause-ok
returns-clause-ok c = rows_read (only_query (goal.at.returns-clause-ok c).In_default-behind_word-7) c.in_ok-found-3.ensures.ok
