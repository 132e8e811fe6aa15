use Rattle.ct_parse.proofs.TermSteps.{name_reads}
use Rattle.ct_parse.proofs.front.name.Goals as goal

pub returns-clause-ok : goal.returns-clause-ok
returns-clause-ok c =
    rw c.in_ok-from_str.ensures
    (name_reads c.in-Some-name_said.ensures.name c.in-Some.ensures.some c.in-Some-name_said.ensures.some)
