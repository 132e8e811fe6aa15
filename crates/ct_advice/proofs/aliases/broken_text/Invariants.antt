use Rattle.std.{proofs.Common.take, specs.Prelude.{All, IsFalse}}
use Rattle.ct_advice.specs.Tokens.{breaks}
use Rattle.ct_advice.proofs.aliases.broken_text.Given as goal

abbrev pub invariant-loop-token : goal.invariant-loop-token
invariant-loop-token l = All (λ t. IsFalse (breaks t.word)) (take l.token-index l.tokens)
