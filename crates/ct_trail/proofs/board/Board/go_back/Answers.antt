use Rattle.std.{proofs.Common.{◌≡◌, Some, subst}, proofs.lemmas.Result.on_ok_weaker}
use Rattle.ct_trail.{specs.Standing.{IsStanding, extended}, proofs.Steps.worth_returned}
use Rattle.ct_trail.proofs.board.Board.go_back.Goals as goal

pub returns-clause-worth : goal.returns-clause-worth
returns-clause-worth c =
    on_ok_weaker c.put_unit.result
    (λ (e : c.put_unit.new.self ≡ extended c.cut.new.self c.args.back.literal (Some c.args.k)).
    worth_returned c.args.self.now c.cut.new.self c.put_unit.new.self c.args.back c.args.k (subst IsStanding c.self.view_is c.self.invariant.0) c.requires.returns c.cut.ensures e)
    c.put_unit.ensures.is
