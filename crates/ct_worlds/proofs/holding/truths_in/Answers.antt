use Rattle.std.proofs.Common.{◌∙◌}
use Rattle.ct_worlds.{specs.Truths.found_in, proofs.Agreed.truths_whole}
use Rattle.ct_worlds.proofs.holding.truths_in.Goals as goal

pub returns-clause-truths : goal.returns-clause-truths
returns-clause-truths c =
    truths_whole c.args.words.now c.args.places.now c.args.nulls.now c.args.world.now c.in_ok-valuation.valuation.listed.now (found_in c.in_ok-all.all)
    c.requires.formed c.requires.places c.requires.nulls (c.in_ok-valuation.ensures.world ∙ c.in_ok-part.ensures) c.in_ok-all.ensures.truths
