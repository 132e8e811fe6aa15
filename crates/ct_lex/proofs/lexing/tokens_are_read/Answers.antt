use Rattle.ct_lex.proofs.Readings.{read_tokens}
use Rattle.ct_lex.proofs.lexing.tokens_are_read.Goals as goal

pub returns : goal.returns
returns c = λ text ts lexes. read_tokens lexes
