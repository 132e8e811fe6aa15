use Rattle.std.proofs.Common.{◌∙◌}
use Rattle.ct_word.{specs.Condition.holds_at, specs.Reading.condition_at}
use Rattle.ct_worlds.{specs.Truths.found_in, proofs.Each.all_alike, proofs.Listed.{parts_first, root_listed}}
use Rattle.ct_worlds.proofs.repairing.all_hold.Goals as goal

pub truths_in-requires-clause-places : goal.truths_in-requires-clause-places
truths_in-requires-clause-places c = parts_first c.args.words.now c.args.conditions.now c.args.places.now c.requires.formed c.requires.places

pub returns : goal.returns
returns c =
    let words = c.args.words.now in
    let conditions = c.args.conditions.now in
    c.are_true.ensures ∙ all_alike (found_in c.in_ok-truths.truths) (λ p. holds_at c.args.world.now (condition_at words p)) conditions
    (λ p h. c.in_ok-truths.ensures.truths p (root_listed words conditions c.args.places.now c.requires.places p h (c.requires.conditions p h)))
