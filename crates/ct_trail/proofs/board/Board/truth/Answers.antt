use Rattle.std.{proofs.Common.{ap, ◌∙◌, length, arith, w32}, proofs.lemmas.Int.to_z-of_z}
use Rattle.ct_trail.specs.Assignment.{truth_of}
use Rattle.ct_trail.proofs.Boards.{few, truth_here}
use Rattle.ct_trail.proofs.board.Board.truth.Goals as goal

pub truth_of-requires : goal.truth_of-requires
truth_of-requires c = omega (arith, few c.args.self.now c.self.inside.vars c.self.inside.top c.self.inside.entries.items c.self.inside.trail.items c.self.inside.truths.items c.self.view_is c.self.invariant, ap length c.as_slice.ensures.value)

pub returns : goal.returns
returns c =
    c.truth_of.ensures ∙ ap (λ x. truth_of c.as_slice.result.now x) (to_z-of_z w32 c.args.l c.ranges.l)
    ∙ truth_here c.args.self.now c.self.inside.vars c.self.inside.top c.self.inside.entries.items c.self.inside.trail.items c.self.inside.truths.items c.self.view_is c.self.invariant c.args.l c.as_slice.result.now c.as_slice.ensures.value
