use Rattle.ct_worlds.proofs.Listed.{parts_first}
use Rattle.ct_worlds.proofs.repairing.wishes_in.Goals as goal

pub truths_in-requires-clause-places : goal.truths_in-requires-clause-places
truths_in-requires-clause-places c = parts_first c.args.words.now c.args.conditions.now c.args.places.now c.requires.formed c.requires.places
