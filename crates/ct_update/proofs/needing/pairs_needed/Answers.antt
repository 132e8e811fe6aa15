use Rattle.ct_update.proofs.Equalities.{left_needed, right_needed, left_placed, right_placed, left_below}
use Rattle.ct_update.proofs.needing.pairs_needed.Goals as goal

pub add_equal-requires-clause-cond : goal.add_equal-requires-clause-cond
add_equal-requires-clause-cond c =
    let at = c.loop-left.invariant in
    right_placed c.args.words.now c.args.cond c.loop-left.part at.part c.requires.formed at.placed c.in-Some.left c.in-Some.right c.in-Some.ensures

pub loop-left-smaller : goal.loop-left-smaller
loop-left-smaller c =
    let at = c.loop-left.invariant in
    left_below c.args.words.now c.args.cond c.loop-left.part at.part c.requires.formed at.placed c.in-Some.left c.in-Some.right c.in-Some.ensures

pub loop-left-preserved : goal.loop-left-preserved
loop-left-preserved c =
    let words = c.args.words.now in
    let root = c.args.cond in
    let at = c.loop-left.invariant in
    record {
      placed = left_placed words root c.loop-left.part at.part c.requires.formed at.placed c.in-Some.left c.in-Some.right c.in-Some.ensures;
      part = left_needed words root c.loop-left.part at.part c.requires.formed at.placed c.in-Some.left c.in-Some.right c.in-Some.ensures;
      needed = c.in_ok-add_equal.ensures root (right_needed words root c.loop-left.part at.part c.requires.formed at.placed c.in-Some.left c.in-Some.right c.in-Some.ensures) at.needed;
    }
