use Rattle.std.{proofs.Common.subst, specs.Prelude.IfSome, proofs.lemmas.Result.IfOk-weaker}
use Rattle.ct_decide.specs.Decided.{DecisionNear, DecisionOf}
use Rattle.ct_certain.{specs.Answered.{IsNearOwn, IsSettledOwn}, proofs.Asking.{decided_within, near_within}}
use Rattle.ct_certain.proofs.settling.settle_by.Goals as goal

pub settle_beside-requires-clause-near : goal.settle_beside-requires-clause-near
settle_beside-requires-clause-near c = (subst (λ o. IfSome o (λ n. IsNearOwn c.args.words.now c.args.global n.now)) c.in-Some.is c.requires.near).near

pub returns-clause-settled : goal.returns-clause-settled
returns-clause-settled c =
    let words = c.args.words.now in
    let near = c.in-Some.near.now.world.now in
    let own = subst (λ o. IfSome o (λ n. IsNearOwn words c.args.global n.now)) c.in-Some.is c.requires.near in
    IfOk-weaker c.settle_beside.result (DecisionNear words c.args.root near) (IsSettledOwn words c.args.root c.args.global) (near_within words c.args.global near own.own c.args.root) c.settle_beside.ensures.decided

pub returns-in_default-clause-settled : goal.returns-in_default-clause-settled
returns-in_default-clause-settled c =
    let words = c.args.words.now in
    IfOk-weaker c.settle.result (DecisionOf words c.args.root) (IsSettledOwn words c.args.root c.args.global) (decided_within words c.args.root c.args.global) c.settle.ensures.decided
