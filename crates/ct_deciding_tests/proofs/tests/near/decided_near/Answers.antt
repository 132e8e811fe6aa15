use Rattle.std.{proofs.Common.{sym, subst}, specs.Prelude.IfSome}
use Rattle.ct_near.specs.Conjuncts.{AreBeside}
use Rattle.ct_deciding_tests.proofs.tests.near.decided_near.Goals as goal

pub decide_near-requires-clause-columns : goal.decide_near-requires-clause-columns
decide_near-requires-clause-columns c = c.no_columns.ensures c.if-not-no_columns.false c.args.root

pub decide_near-requires-clause-beside : goal.decide_near-requires-clause-beside
decide_near-requires-clause-beside c =
    subst (AreBeside c.args.words.now c.args.root c.args.global) (sym c.as_slice.ensures.value)
    (subst (λ o. IfSome o (λ others. AreBeside c.args.words.now c.args.root c.args.global others.items)) c.in-Some.is c.in_ok-own.ensures.beside)
