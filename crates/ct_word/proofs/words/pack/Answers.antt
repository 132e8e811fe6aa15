use Rattle.ct_word.proofs.Packed.{kind_of_parts}
use Rattle.ct_word.proofs.words.pack.Goals as goal

pub returns-clause-kind : goal.returns-clause-kind
returns-clause-kind c = kind_of_parts c.args.kind c.code.result c.args.a c.args.b c.code.ensures c.requires.left c.requires.right
