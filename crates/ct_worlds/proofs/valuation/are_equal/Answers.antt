use Rattle.std.{proofs.Common.{◌≡◌, ◌∙◌, [], ap, subst}, specs.Prelude.{IfOk, MatchOption}}
use Rattle.ct_word.{specs.Value.{at, same_value}, specs.Reading.term_at}
use Rattle.ct_worlds.{specs.Valuation.IsConstant, proofs.Values.{same_turned, constants_same}}
use Rattle.ct_worlds.proofs.valuation.are_equal.Goals as goal

pub returns-in-None-Some-clause-value : goal.returns-in-None-Some-clause-value
returns-in-None-Some-clause-value c =
    let v = c.args.valuation.now.listed.now in
    let first = at v [] (term_at c.args.words.now c.args.a) in
    let second = at v [] (term_at c.args.words.now c.args.b) in
    let is : c.in-None-Some.y.now ≡ second =
    subst (λ o. MatchOption o (IsConstant (term_at c.args.words.now c.args.b)) (λ x. x.now ≡ at c.args.valuation.now.listed.now [] (term_at c.args.words.now c.args.b))) c.in-None-Some.is-1 c.in_ok-second.ensures.value in
    subst (λ y. IfOk c.has_value-in-None-Some.result (λ b. b ≡ y)) (ap (λ x. same_value x first) is ∙ same_turned second first) (c.has_value-in-None-Some.ensures v)

pub returns-in-None-None-clause-value : goal.returns-in-None-None-clause-value
returns-in-None-None-clause-value c =
    let words = c.args.words.now in
    constants_same words c.requires.formed c.args.valuation.now.listed.now c.args.a c.args.b c.requires.first c.requires.second
    (subst (λ o. MatchOption o (IsConstant (term_at words c.args.a)) (λ x. x.now ≡ at c.args.valuation.now.listed.now [] (term_at words c.args.a))) c.in-None-None.is-0 c.in_ok-first.ensures.value)
    (subst (λ o. MatchOption o (IsConstant (term_at words c.args.b)) (λ x. x.now ≡ at c.args.valuation.now.listed.now [] (term_at words c.args.b))) c.in-None-None.is-1 c.in_ok-second.ensures.value)
