use Rattle.std.proofs.lemmas.Result.{on_ok_weaker}
use Rattle.ct_decide.proofs.Askings.{path_out}
use Rattle.ct_decide.proofs.stars.add_clauses.Goals as goal

pub returns-else-places-gt3-clause-out : goal.returns-else-places-gt3-clause-out
returns-else-places-gt3-clause-out c = on_ok_weaker _ (λ adds. path_out c.args.words.now c.args.aim c.args.path c.args.asking.now _ c.requires.asking adds c.args.model.now) c.add_path.ensures.adds
