use Rattle.std.{proofs.Common.{sym, subst}, specs.Prelude.IfSome, proofs.lemmas.Result.IfOk-weaker}
use Rattle.ct_near.specs.Conjuncts.{AreBeside}
use Rattle.ct_decide.{specs.Decided.{DecisionNear, DecisionOf}, proofs.Nearby.near_decided}
use Rattle.ct_statement.proofs.stepping.decided.Goals as goal

pub decide_near-requires-clause-beside : goal.decide_near-requires-clause-beside
decide_near-requires-clause-beside c =
    subst (AreBeside c.args.words.now c.args.place c.args.global) (sym c.as_slice.ensures.value)
    (subst (λ o. IfSome o (λ others. AreBeside c.args.words.now c.args.place c.args.global others.items)) c.in-Some.is c.in_ok-own.ensures.beside)

pub returns-in_default : goal.returns-in_default
returns-in_default c =
    let words = c.args.words.now in
    let kept = c.args.kept.now in
    IfOk-weaker c.decide.result (DecisionOf words c.args.place) (DecisionNear words c.args.place kept) (near_decided words c.args.place kept) c.decide.ensures.decided
