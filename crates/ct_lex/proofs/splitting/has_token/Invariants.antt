use Rattle.std.proofs.Common.{◌≡◌, drop}
use Rattle.ct_lex.specs.Texts.{has_token_from, has_token}
use Rattle.ct_lex.proofs.splitting.has_token.Given as goal

abbrev pub invariant-loop-at : goal.invariant-loop-at
invariant-loop-at l = has_token l.piece ≡ has_token_from l.in_comment (drop l.at l.piece)
