use Rattle.std.{proofs.Common.{◌∷◌, subst}, specs.Prelude.IfSome, proofs.lemmas.Result.IfOk-weaker}
use Rattle.ct_near.{specs.Near.IsRepairedNear, proofs.Runs.run_condition}
use Rattle.ct_decide.specs.Decided.{DecisionNear}
use Rattle.ct_workers.{specs.Right.IsRight, proofs.Decided.{beside_holds, near_right}}
use Rattle.ct_workers.proofs.asking.decide_beside.Goals as goal

pub repaired_near-requires-clause-own : goal.repaired_near-requires-clause-own
repaired_near-requires-clause-own c = λ p h. run_condition c.args.words.now c.requires.formed c.args.root c.requires.question.condition p (c.requires.beside.each p h)

pub returns-in-Some : goal.returns-in-Some
returns-in-Some c = beside_holds c.args.words.now c.args.root c.args.held.now.place c.args.own.now c.args.world.now c.in-Some.near c.requires.beside
    (subst (λ o. IfSome o (IsRepairedNear c.args.words.now (c.args.held.now.place ∷ c.args.own.now) c.args.world.now)) c.in-Some.is c.in_ok-near.ensures.near)

pub returns : goal.returns
returns c =
    let words = c.args.words.now in
    let known = c.args.world.now in
    IfOk-weaker c.decide_near.result (DecisionNear words c.args.root known) (IsRight words c.args.root) (near_right words c.args.root known) c.decide_near.ensures.decided
