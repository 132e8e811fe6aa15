use Rattle.std.proofs.Common.{◌≡◌, ◌∙◌, ap, arith, length, map, subst}
use Rattle.ct_condition.{specs.Worth.{AreWorths, is_true}, proofs.Values.truths_are}
use Rattle.ct_condition.proofs.valued.worths.Goals as goal

pub returns : goal.returns
returns c =
    let words = c.args.words.now in
    let all = c.in_ok-all.all.items in
    let long : length all ≡ length words = omega (arith, c.in_ok-all.ensures.count, c.requires.small) in
    let same = c.from_list.ensures ∙ c.in_ok-truths.ensures ∙ ap (map is_true) c.as_slice-2.ensures.value in
    subst (λ v. AreWorths words v c.from_list.result) c.as_slice.ensures
    (truths_are words c.in_ok-nulls.nulls.steps.keys c.as_slice.result.now all c.from_list.result long c.in_ok-all.ensures.worths same)
