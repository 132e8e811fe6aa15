use Rattle.std.proofs.Common.{◌≡◌, length}
use Rattle.ct_trail.specs.Standing.{shortened}
use Rattle.ct_trail.proofs.board.Board.cut.Given as goal

abbrev pub invariant-loop-self : goal.invariant-loop-self
invariant-loop-self l = shortened l.self l.n ≡ shortened l.initial.self l.n

abbrev pub decreases-loop-self : goal.decreases-loop-self
decreases-loop-self l = length l.self.trail
