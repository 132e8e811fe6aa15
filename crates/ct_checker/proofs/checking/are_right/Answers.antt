use Rattle.std.proofs.Common.{sym, arith, subst, ◌≤◌}
use Rattle.ct_derivation.specs.Accepts.{width, widest_of}
use Rattle.ct_checker.proofs.Members.{width_at}
use Rattle.ct_checker.proofs.checking.are_right.Goals as goal

pub is_right-requires : goal.is_right-requires
is_right-requires c =
    let at : width c.index-steps-i.result ≤ widest_of c.args.steps.now =
    subst (λ s. width s ≤ widest_of c.args.steps.now) (sym c.index-steps-i.is) (width_at c.args.steps.now c.loop-i.i c.index-steps-i.result (omega arith)) in
    omega (arith, at, c.requires, c.loop-i.invariant.1)
