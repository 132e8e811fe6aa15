use Rattle.std.{proofs.Common.{arith, sym, subst, take_all}, specs.Prelude.IsFalse, proofs.lemmas.List.Elements.{All-more, All-same}}
use Rattle.ct_advice.specs.Tokens.{breaks}
use Rattle.ct_advice.proofs.aliases.broken_text.Goals as goal

pub loop-token-preserved : goal.loop-token-preserved
loop-token-preserved c =
    let here : IsFalse (breaks c.token-item.result.word) = grind (arith, c.is_broken.ensures, c.if-is_broken.false) in
    All-more (λ t. IsFalse (breaks t.word)) c.args.tokens.now c.loop-token.token-index c.token-item.result (omega (arith, c.loop-token-test.true)) c.loop-token.invariant
    (subst (λ t. IsFalse (breaks t.word)) c.token-item.is here)

pub returns-clause-none : goal.returns-clause-none
returns-clause-none c =
    All-same (λ t. IsFalse (breaks t.word)) c.args.tokens.now _ (sym (take_all c.loop-token.token-index c.args.tokens.now (omega (arith, c.loop-token-test.false)))) c.loop-token.invariant
