use Rattle.ct_lex.proofs.Scripts.{splits_texts, splits_only}
use Rattle.ct_lex.proofs.splitting.texts_are_pieces.Goals as goal

pub returns : goal.returns
returns c = λ script. (splits_texts script, λ ts splits. splits_only splits)
