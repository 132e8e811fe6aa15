use Rattle.std.{proofs.Common.{get_or, sym, ◌∙◌}, proofs.lemmas.List.Elements.All-get_or}
use Rattle.ct_update.{specs.Needing.{AreTerms, IsNeeded}, proofs.Equalities.never_apart}
use Rattle.ct_update.proofs.needing.never_holds.Goals as goal

pub cell_for-left-requires-clause-term : goal.cell_for-left-requires-clause-term
cell_for-left-requires-clause-term c = (All-get_or (AreTerms c.args.words.now) c.args.pairs.now c.loop-number.number (0, 0) c.loop-number-test.true c.requires.pairs).0

pub cell_for-right-requires-clause-term : goal.cell_for-right-requires-clause-term
cell_for-right-requires-clause-term c = (All-get_or (AreTerms c.args.words.now) c.args.pairs.now c.loop-number.number (0, 0) c.loop-number-test.true c.requires.pairs).1

pub returns-then-are_apart : goal.returns-then-are_apart
returns-then-are_apart c cond all is v =
    let pair = get_or c.args.pairs.now c.loop-number.number (0, 0) in
    never_apart c.args.words.now c.requires.formed c.args.cells.now pair c.cell_for-left.result c.cell_for-right.result cond c.cell_for-left.ensures c.cell_for-right.ensures (sym c.are_apart.ensures ∙ c.if-are_apart.true)
    (All-get_or (IsNeeded c.args.words.now cond) c.args.pairs.now c.loop-number.number (0, 0) c.loop-number-test.true all) v
