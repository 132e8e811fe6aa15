use Rattle.std.proofs.Common.{sym, true, false}
use Rattle.ct_condition.proofs.Truths.{in_place, true_at, false_at}
use Rattle.ct_condition.proofs.folding.literal.Goals as goal

pub returns-then-truth-clause-truth : goal.returns-then-truth-clause-truth
returns-then-truth-clause-truth c =
    let ws = c.args.words.now in
    in_place ws 0 (λ v row. true) (λ v row. c.args.truth) (true_at ws c.requires.begins c.requires.formed) (λ v row. sym c.if-truth.true)

pub returns-else-truth-clause-truth : goal.returns-else-truth-clause-truth
returns-else-truth-clause-truth c =
    let ws = c.args.words.now in
    in_place ws 1 (λ v row. false) (λ v row. c.args.truth) (false_at ws c.requires.begins c.requires.formed) (λ v row. sym c.if-truth.false)
