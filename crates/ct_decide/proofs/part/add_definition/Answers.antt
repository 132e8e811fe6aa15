use Rattle.ct_decide.proofs.Parts.{defined_below}
use Rattle.ct_decide.proofs.part.add_definition.Goals as goal

pub add_clause-requires-clause-of : goal.add_clause-requires-clause-of
add_clause-requires-clause-of c = defined_below c.args.words.now c.requires.formed c.args.aim.root c.args.p c.requires.below c.args.k c.args.literals.now c.requires.defines
