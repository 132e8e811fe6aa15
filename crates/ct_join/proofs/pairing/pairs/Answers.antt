use Rattle.std.{proofs.Common.{◌∙◌, ap}, proofs.lemmas.List.get_or_default}
use Rattle.ct_join.{specs.Pairs.partners, proofs.Filtered.pairs_more}
use Rattle.ct_join.proofs.pairing.pairs.Goals as goal

pub loop-place-preserved : goal.loop-place-preserved
loop-place-preserved c =
    pairs_more c.args.left.now c.args.right.now c.loop-place.place _ _ _ _ c.loop-place-test.true (get_or_default c.args.left.now c.loop-place.place _ _ c.loop-place-test.true)
    (c.as_slice.ensures.value ∙ c.in_ok-find.ensures ∙ ap (partners _) c.in_ok-index.ensures) c.in_ok-add.ensures c.loop-place.invariant
