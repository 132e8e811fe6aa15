use Rattle.ct_derivation.proofs.Sound.{root_refuted}
use Rattle.ct_derivation.proofs.meaning.refuted.Goals as goal

pub returns : goal.returns
returns c = root_refuted c.args.words.now c.args.root c.args.derivation.now c.requires.words c.requires.accepted
