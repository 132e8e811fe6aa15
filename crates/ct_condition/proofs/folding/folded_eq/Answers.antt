use Rattle.std.proofs.Common.{sym, true, false}
use Rattle.ct_condition.{specs.Truth.equal_at, proofs.Truths.{in_place, true_at, false_at, equal_itself, constants_differ}}
use Rattle.ct_condition.proofs.folding.folded_eq.Goals as goal

pub returns-then-s-t-clause-truth : goal.returns-then-s-t-clause-truth
returns-then-s-t-clause-truth c =
    let ws = c.args.words.now in
    in_place ws 0 (λ v row. true) (equal_at ws c.args.s c.args.t) (true_at ws c.requires.begins c.requires.formed)
    (equal_itself ws c.args.s c.args.t c.if-s-t.true)

pub returns-then-is_constant-2-clause-truth : goal.returns-then-is_constant-2-clause-truth
returns-then-is_constant-2-clause-truth c =
    let ws = c.args.words.now in
    in_place ws 1 (λ v row. false) (equal_at ws c.args.s c.args.t) (false_at ws c.requires.begins c.requires.formed)
    (constants_differ ws c.args.s c.args.t c.requires.formed c.if-s-t.false (sym c.if-is_constant.ensures.word) (sym c.if-is_constant-2.ensures.word))
