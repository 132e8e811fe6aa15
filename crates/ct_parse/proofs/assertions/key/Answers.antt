use Rattle.ct_parse.{proofs.TermSteps.passed, proofs.AssertSteps.{key_read, no_key_name, no_key_columns}}
use Rattle.ct_parse.proofs.assertions.key.Goals as goal

pub returns-in_err-name-clause-none : goal.returns-in_err-name-clause-none
returns-in_err-name-clause-none c = passed _ c.from_residual.ensures.1 (λ memory. no_key_name c.requires (c.in_err-name.ensures.none memory))

pub returns-in_err-first-clause-none : goal.returns-in_err-first-clause-none
returns-in_err-first-clause-none c = passed _ c.from_residual-in_err-first.ensures.1 (λ memory. no_key_columns c.requires c.in_ok-name.ensures.ok (c.in_err-first.ensures.none memory))

pub returns-clause-ok : goal.returns-clause-ok
returns-clause-ok c = key_read c.requires c.in_ok-name.ensures.ok c.in_ok-first.ensures.ok
