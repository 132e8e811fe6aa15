use Rattle.std.{proofs.Common.{◌≡◌, ◌<◌, sym, subst, get_or, arith}, proofs.lemmas.List.get_or_read}
use Rattle.ct_equality.{specs.Assigned.IsLink, proofs.Trees.walk_on}
use Rattle.ct_equality.proofs.paths.walk.Goals as goal

pub loop-at-preserved : goal.loop-at-preserved
loop-at-preserved c =
    let atoms = c.args.atoms.now in
    let truth = c.args.truth.now in
    let places = c.args.tree.now.places.items in
    let origins = c.args.tree.now.origins.items in
    let tree = c.requires.tree in
    let at = c.loop-at.at in
    let o = c.index-in-loop-at.result.now in
    let next = c.index-in-loop-at-2.result.now in
    let below = c.loop-at.invariant.within in
    let o_is : o ≡ get_or origins at 0 = get_or_read origins at o (omega (arith, tree.count, below)) c.index-in-loop-at.ensures 0 in
    let o_below : o < at = omega (arith, o_is, tree.earlier at c.loop-at-test.true below) in
    let next_is : next ≡ get_or places o 0 = get_or_read places o next (omega (arith, o_below, below)) c.index-in-loop-at-2.ensures 0 in
    let link = subst (λ k. IsLink atoms truth (get_or places at 0) (get_or places k 0)) (sym o_is) (tree.links at c.loop-at-test.true below) in
    record {
      within = omega (arith, o_below, below);
      walk = rw (c.in_ok-push.ensures.items, next_is) (walk_on atoms truth (get_or places c.args.from 0) (get_or places at 0) (get_or places o 0) c.loop-at.path.items c.loop-at.invariant.walk link);
    }
