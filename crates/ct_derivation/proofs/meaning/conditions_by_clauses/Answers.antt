use Rattle.ct_derivation.proofs.Modelled.{each_right}
use Rattle.ct_derivation.proofs.meaning.conditions_by_clauses.Goals as goal

pub returns : goal.returns
returns c = λ v t below m p b. each_right c.args.words.now c.requires v t below m p b
