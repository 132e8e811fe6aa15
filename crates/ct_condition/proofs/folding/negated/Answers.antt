use Rattle.std.proofs.Common.{sym, ◌∙◌, ap, subst, Some}
use Rattle.ct_condition.{specs.Truth.Negates, proofs.Truths.negation}
use Rattle.ct_condition.proofs.folding.negated.Goals as goal

pub returns-in-Not-clause-negates : goal.returns-in-Not-clause-negates
returns-in-Not-clause-negates c =
    subst (λ d. Negates c.args.words.now c.args.place d) (sym c.left.ensures.value)
    (negation c.args.words.now c.args.place c.in_ok-word.word c.requires (sym c.in_ok-word.ensures) (sym c.in_ok-kind.ensures ∙ ap (λ k. Some k) c.in-Not.is))
