use Rattle.ct_derivation.proofs.Longer.{accepted_longer}
use Rattle.ct_derivation.proofs.meaning.still_accepted.Goals as goal

pub returns-clause-longer : goal.returns-clause-longer
returns-clause-longer c = λ xs longer. accepted_longer c.args.words.now xs longer c.args.root c.args.derivation.now c.requires

pub returns-clause-later : goal.returns-clause-later
returns-clause-later c = λ xs formed longer. accepted_longer c.args.words.now xs longer c.args.root c.args.derivation.now c.requires
