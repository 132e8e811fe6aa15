use Rattle.ct_lex.proofs.Written.{tokens_written}
use Rattle.ct_lex.proofs.lexing.tokens_are_written.Goals as goal

pub returns : goal.returns
returns c = λ text ts lexes. tokens_written lexes
