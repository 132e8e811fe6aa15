use Rattle.std.{proofs.Common.{sym, take_all}, proofs.lemmas.List.Elements.{All-more, All-same}}
use Rattle.ct_deciding_tests.proofs.Updated.{IsWithin, columns_within}
use Rattle.ct_deciding_tests.proofs.tests.updating.are_columns_within.Goals as goal

pub loop-word-preserved : goal.loop-word-preserved
loop-word-preserved c =
    All-more (IsWithin c.args.width) c.args.words.now c.loop-word.word-index 0 c.loop-word-test.true c.loop-word.invariant (c.is_within.ensures c.if-not-is_within.false)

pub returns : goal.returns
returns c e =
    columns_within c.args.words.now c.args.width c.requires
    (All-same (IsWithin c.args.width) c.args.words.now _ (sym (take_all c.loop-word.word-index c.args.words.now c.loop-word-test.false)) c.loop-word.invariant)
