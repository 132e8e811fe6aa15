use Rattle.std.proofs.Common.{◌≡◌, ◌<◌, ◌∙◌, ap, length, arith, rules, subst}
use Rattle.ct_word.{proofs.Growth.place_within, specs.Condition.holds_at, specs.Reading.condition_at}
use Rattle.ct_condition.{specs.Worth.HaveWorths, proofs.Values.truth_there}
use Rattle.ct_word.specs.declared.kinds.Class.TheVariants as class
use Rattle.ct_condition.proofs.valued.value_at.Goals as goal

pub first_worths-requires-clause-within : goal.first_worths-requires-clause-within
first_worths-requires-clause-within c = let lt : c.args.place < length c.args.words.now = place_within c.args.words.now class.Cond c.args.place c.requires.condition in omega (arith, lt)

pub worth_at-requires-clause-within : goal.worth_at-requires-clause-within
worth_at-requires-clause-within c = place_within c.args.words.now class.Cond c.args.place c.requires.condition

pub worth_at-requires-clause-worths : goal.worth_at-requires-clause-worths
worth_at-requires-clause-worths c =
    let same : c.in_ok-worths.worths.items ≡ c.as_slice.result.now = search rules in
    subst (HaveWorths c.args.words.now c.in_ok-nulls.nulls.steps.keys c.as_slice-pairs.result.now) same c.in_ok-worths.ensures.worths

pub returns : goal.returns
returns c =
    c.is_true.ensures
    ∙ truth_there c.args.words.now c.in_ok-nulls.nulls.steps.keys c.as_slice-pairs.result.now c.args.place c.in_ok-worth.worth c.requires.condition c.in_ok-worth.ensures
    ∙ ap (λ v. holds_at v (condition_at c.args.words.now c.args.place)) c.as_slice-pairs.ensures
