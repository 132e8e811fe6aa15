use Rattle.ct_parse.{specs.Grammar.{IsClosed, IsCell}, specs.Ends.{EndsAnyhow, EndsItem}, proofs.TermSteps.{narrow, narrow_never, passed}}
use Rattle.ct_parse.{proofs.Combined.{renamed, no_renamed}, proofs.RowSteps.row_is}
use Rattle.ct_parse.proofs.rows.RowPart.read.Goals as goal

pub returns-in_err-first-clause-none : goal.returns-in_err-first-clause-none
returns-in_err-first-clause-none c =
    passed _ c.from_residual.ensures.1 (λ memory. no_renamed (row_is _) (narrow_never (IsClosed IsCell) EndsAnyhow EndsItem (λ r e. tt) (c.in_err-first.ensures.none memory)))

pub returns-clause-ok : goal.returns-clause-ok
returns-clause-ok c = renamed (row_is _) (narrow {E = EndsAnyhow} (λ r e. tt) c.in_ok-first.ensures.ok)
