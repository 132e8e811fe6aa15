use Rattle.std.proofs.Common.{◌∙◌}
use Rattle.ct_parse.proofs.TermSteps.{at_name_is}
use Rattle.ct_parse.proofs.front.is_at_name.Goals as goal

pub returns : goal.returns
returns c =
    c.is_some.ensures ∙ at_name_is (λ t. t.now) c.name_said.result c.in-Some.ensures.some c.name_said.ensures.some c.name_said.ensures.name c.name_said.ensures.none
