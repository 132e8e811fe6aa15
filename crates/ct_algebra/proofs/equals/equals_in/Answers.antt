use Rattle.std.{proofs.Common.{◌++◌, ◌∷◌, [], ◌∙◌, map, take, ap, sym}, specs.Option.option_to_list, proofs.lemmas.List.map_more}
use Rattle.ct_word.specs.Condition.{listed}
use Rattle.ct_query.specs.Pred.{condition_of}
use Rattle.ct_algebra.proofs.Comparing.{equals_more}
use Rattle.ct_algebra.specs.Equals as spec
use Rattle.ct_algebra.proofs.equals.equals_in.Goals as goal

pub loop-p-preserved : goal.loop-p-preserved
loop-p-preserved c =
    let list = c.args.list.now in
    let i = c.loop-p.p-index in
    let p = c.p-item.result in
    let done = map condition_of (take i list) in
    c.in_ok-push_some.ensures ∙ (λ t. c.loop-p.invariant t ++ option_to_list (c.equal_in.ensures t)) ∙ sym (equals_more c.args.width done (condition_of p))
    ∙ ap (λ x. spec.equals_in c.args.width (listed (done ++ condition_of x ∷ []))) c.p-item.is ∙ ap (λ cs. spec.equals_in c.args.width (listed cs)) (sym (map_more condition_of list i p c.loop-p-test.true))
