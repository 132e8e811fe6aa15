use Rattle.std.proofs.lemmas.Result.{IfOk-weaker}
use Rattle.ct_decide.specs.Decided.{DecisionOf}
use Rattle.ct_workers.{specs.Right.IsRight, proofs.Decided.decided_right}
use Rattle.ct_workers.proofs.asking.decide_whole.Goals as goal

pub returns : goal.returns
returns c =
    let words = c.args.words.now in
    IfOk-weaker c.decide.result (DecisionOf words c.args.root) (IsRight words c.args.root) (decided_right words c.args.root) c.decide.ensures.decided
