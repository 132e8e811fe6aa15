use Rattle.std.proofs.lemmas.Option.{slice_get-get_or}
use Rattle.ct_operators.proofs.placing.word_at.Goals as goal

pub returns : goal.returns
returns c = slice_get-get_or c.args.words.now c.args.place 0 c.requires
