use Rattle.std.proofs.Common.{ap, length, arith}
use Rattle.ct_trail.proofs.Boards.{few, top_few}
use Rattle.ct_trail.proofs.board.Board.scan.Goals as goal

pub scan_added-requires-clause-vars : goal.scan_added-requires-clause-vars
scan_added-requires-clause-vars c = omega (arith, few c.args.self.now c.self.inside.vars c.self.inside.top c.self.inside.entries.items c.self.inside.trail.items c.self.inside.truths.items c.self.view_is c.self.invariant, ap length c.as_slice.ensures.value)

pub scan_added-requires-clause-top : goal.scan_added-requires-clause-top
scan_added-requires-clause-top c = omega (arith, top_few c.args.self.now c.self.inside.vars c.self.inside.top c.self.inside.entries.items c.self.inside.trail.items c.self.inside.truths.items c.self.view_is c.self.invariant, ap length c.as_slice.ensures.value)
