use Rattle.std.proofs.lemmas.Result.{IfOk-weaker, IfErr-weaker}
use Rattle.ct_parse.{specs.Grammar.IsName, specs.Ends.{EndsAnyhow, EndsItem}, proofs.TermSteps.{narrow, narrow_never}}
use Rattle.ct_parse.proofs.rows.TextPart.read.Goals as goal

pub returns-clause-ok : goal.returns-clause-ok
returns-clause-ok c = IfOk-weaker c.name.result _ _ (λ p h. narrow {E = EndsAnyhow} (λ r e. tt) h) c.name.ensures.ok

pub returns-clause-none : goal.returns-clause-none
returns-clause-none c = IfErr-weaker c.name.result _ _ (λ e never memory. narrow_never IsName EndsAnyhow EndsItem (λ r e. tt) (never memory)) c.name.ensures.none
