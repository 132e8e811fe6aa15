use Rattle.std.proofs.Common.{subst}
use Rattle.ct_trail.{specs.Standing.IsStanding, proofs.Steps.unit_within}
use Rattle.ct_trail.proofs.board.Board.put_unit.Goals as goal

pub put-requires-clause-within : goal.put-requires-clause-within
put-requires-clause-within c =
    unit_within c.args.self.now c.args.literal.now c.args.k (subst IsStanding c.self.view_is c.self.invariant.0) c.requires
