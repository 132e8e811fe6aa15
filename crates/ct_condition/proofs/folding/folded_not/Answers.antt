use Rattle.std.{proofs.Common.not, proofs.lemmas.Option.IfSome_then}
use Rattle.ct_condition.{specs.Truth.{HasTruth, Negates, truth_at}, proofs.Truths.{not_true_at, not_false_at, negation_back}}
use Rattle.ct_condition.proofs.folding.folded_not.Goals as goal

pub returns-then-c-eq-TRUE_PLACE-clause-truth : goal.returns-then-c-eq-TRUE_PLACE-clause-truth
returns-then-c-eq-TRUE_PLACE-clause-truth c = not_true_at c.args.words.now c.requires.begins c.requires.formed c.args.c c.if-c-eq-TRUE_PLACE.true

pub returns-then-c-eq-FALSE_PLACE-clause-truth : goal.returns-then-c-eq-FALSE_PLACE-clause-truth
returns-then-c-eq-FALSE_PLACE-clause-truth c = not_false_at c.args.words.now c.requires.begins c.requires.formed c.args.c c.if-c-eq-FALSE_PLACE.true

pub returns-clause-truth : goal.returns-clause-truth
returns-clause-truth c =
    IfSome_then c.negated.result {P = λ d. Negates c.args.words.now c.args.c d} {Q = λ d. HasTruth c.args.words.now d (λ v row. not (truth_at c.args.words.now c.args.c v row))}
    c.negated.ensures.negates (λ d n. negation_back c.args.words.now c.args.c d c.requires.small n)
