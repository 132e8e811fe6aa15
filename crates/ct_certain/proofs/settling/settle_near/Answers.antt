use Rattle.std.proofs.lemmas.Result.{IfOk-weaker}
use Rattle.ct_decide.specs.Decided.{DecisionNear}
use Rattle.ct_certain.{specs.Answered.IsSettled, proofs.Asking.settled_near}
use Rattle.ct_certain.proofs.settling.settle_near.Goals as goal

pub returns-clause-settled : goal.returns-clause-settled
returns-clause-settled c =
    let words = c.args.words.now in
    let near = c.args.near.now.world.now in
    IfOk-weaker c.settle_beside.result (DecisionNear words c.args.root near) (IsSettled words c.args.root) (settled_near words c.args.root near) c.settle_beside.ensures.decided
