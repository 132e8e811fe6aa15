use Rattle.std.{proofs.Common.{subst, take_all}, specs.Prelude.All, proofs.lemmas.List.Elements.All-more}
use Rattle.ct_deciding_tests.proofs.Updated.{IsSetOf}
use Rattle.ct_deciding_tests.proofs.tests.updating.are_sets.Goals as goal

pub loop-set-preserved : goal.loop-set-preserved
loop-set-preserved c =
    All-more (IsSetOf c.args.words.now c.args.width) c.args.sets.now c.loop-set.set-index (0, 0) c.loop-set-test.true c.loop-set.invariant (c.is_set.ensures c.if-not-is_set.false)

pub returns : goal.returns
returns c e = subst (All (IsSetOf c.args.words.now c.args.width)) (take_all c.loop-set.set-index c.args.sets.now c.loop-set-test.false) c.loop-set.invariant
