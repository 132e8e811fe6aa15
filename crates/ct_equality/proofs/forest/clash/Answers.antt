use Rattle.std.{proofs.Common.{◌∙◌, sym, arith}, proofs.lemmas.Option.slice_get-get_or}
use Rattle.ct_equality.proofs.Joining.{joining_more, joining_clash}
use Rattle.ct_equality.proofs.forest.clash.Goals as goal

pub loop-k-preserved : goal.loop-k-preserved
loop-k-preserved c =
    let now = c.loop-k.invariant in
    joining_more c.args.words.now c.args.atoms.now c.args.truth.now c.args.found.now.words c.requires.plain c.requires.all c.loop-k.k c.loop-k.forest.parents.items c.loop-k.forest.chiefs.items now
    _ _ (slice_get-get_or c.args.atoms.now c.loop-k.k _ c.loop-k-test.true) (slice_get-get_or c.args.truth.now c.loop-k.k _ (omega (arith, c.requires.truths)))
    _ _ c.join_by.ensures.sound (sym (c.join_by.ensures.clash now.members now.forest) ∙ c.in_default.is) (c.join_by.ensures.joined now.members now.forest)

pub returns-in-Some-clause-clash : goal.returns-in-Some-clause-clash
returns-in-Some-clause-clash c =
    let now = c.loop-k.invariant in
    joining_clash c.args.words.now c.args.atoms.now c.args.truth.now c.args.found.now.words c.requires.plain c.requires.all c.loop-k.k c.loop-k.forest.parents.items c.loop-k.forest.chiefs.items now
    _ _ (slice_get-get_or c.args.atoms.now c.loop-k.k _ c.loop-k-test.true) (slice_get-get_or c.args.truth.now c.loop-k.k _ (omega (arith, c.requires.truths)))
    c.in-Some.clash (sym (c.join_by.ensures.clash now.members now.forest) ∙ c.in-Some.is)
