use Rattle.std.{proofs.Common.{sym, subst}, specs.Prelude.IfSome, proofs.lemmas.Result.IfOk-weaker}
use Rattle.ct_near.specs.Conjuncts.{AreBeside}
use Rattle.ct_decide.{specs.Decided.{DecisionNear, DecisionOf}, proofs.Nearby.near_decided}
use Rattle.ct_certain.proofs.settling.settle_beside.Goals as goal

pub decide_near-requires-clause-beside : goal.decide_near-requires-clause-beside
decide_near-requires-clause-beside c =
    subst (AreBeside c.args.words.now c.args.root c.args.global) (sym c.as_slice.ensures.value)
    (subst (λ o. IfSome o (λ others. AreBeside c.args.words.now c.args.root c.args.global others.now.items)) c.in-Some.is c.requires.own)

pub returns-in_default-clause-decided : goal.returns-in_default-clause-decided
returns-in_default-clause-decided c =
    let near = c.args.near.now.world.now in
    IfOk-weaker c.settle.result (DecisionOf c.args.words.now c.args.root) (DecisionNear c.args.words.now c.args.root near) (near_decided c.args.words.now c.args.root near) c.settle.ensures.decided
