use Rattle.ct_words.proofs.Named.{named}
use Rattle.ct_words.proofs.asking.name_in.Goals as goal

pub returns : goal.returns
returns c = named c.args.word.now c.name_of.result c.name_of.ensures.some c.name_of.ensures.none
