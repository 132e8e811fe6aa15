use Rattle.std.proofs.Common.{subst, Option}
use Rattle.ct_trail.proofs.{Steps.continues_then, Worths.left_falls}
use Rattle.ct_sat.specs.{declared.verdict.Found.Found, Search.TurnOf}
use Rattle.ct_sat.proofs.search.search.Goals as goal

pub returns-in_err-found-clause-continues : goal.returns-in_err-found-clause-continues
returns-in_err-found-clause-continues c = continues_then c.args.board.now c.loop-found.board c.turn.new.board c.loop-found.invariant c.turn.ensures.continues

pub returns-in-Some-clause-continues : goal.returns-in-Some-clause-continues
returns-in-Some-clause-continues c = continues_then c.args.board.now c.loop-found.board c.turn.new.board c.loop-found.invariant c.turn.ensures.continues

pub loop-found-smaller : goal.loop-found-smaller
loop-found-smaller c = left_falls c.loop-found.board c.turn.new.board c.turn.ensures.continues.vars (subst (λ (f : Option Found). TurnOf c.loop-found.board c.turn.new.board f) c.in_default.is c.in_ok-found.ensures.turn)

pub loop-found-preserved : goal.loop-found-preserved
loop-found-preserved c = continues_then c.args.board.now c.loop-found.board c.turn.new.board c.loop-found.invariant c.turn.ensures.continues
