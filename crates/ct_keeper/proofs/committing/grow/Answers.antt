use Rattle.ct_keeper.proofs.Interning.{interned_none}
use Rattle.ct_keeper.proofs.committing.grow.Goals as goal

pub returns-in-Err-growing-clause-interns : goal.returns-in-Err-growing-clause-interns
returns-in-Err-growing-clause-interns g c = interned_none c.args.keeper.now c.args.guest.now c.requires.guest c.words.ensures.formed

pub returns-in-Err-clause-interns : goal.returns-in-Err-clause-interns
returns-in-Err-clause-interns g c = interned_none c.args.keeper.now c.args.guest.now c.requires.guest c.words.ensures.formed
