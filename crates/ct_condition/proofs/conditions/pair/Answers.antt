use Rattle.std.proofs.lemmas.Result.{IfOk-weaker}
use Rattle.ct_condition.proofs.Reached.{at_or_either, at_or_swapped}
use Rattle.ct_condition.proofs.conditions.pair.Goals as goal

pub returns-then-c-d-clause-terms : goal.returns-then-c-d-clause-terms
returns-then-c-d-clause-terms g c =
    IfOk-weaker c.put.result _ _ (λ place from. at_or_either (g.I.Interner.list c.put.new.pass) place c.args.kind c.args.c c.args.d from) c.put.ensures.terms

pub returns-else-c-d-clause-terms : goal.returns-else-c-d-clause-terms
returns-else-c-d-clause-terms g c =
    IfOk-weaker c.put-else-c-d.result _ _ (λ place from. at_or_swapped (g.I.Interner.list c.put-else-c-d.new.pass) place c.args.kind c.args.c c.args.d from) c.put-else-c-d.ensures.terms
