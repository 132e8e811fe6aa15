use Rattle.std.proofs.Common.{arith}
use Rattle.ct_decide.proofs.Along.{star_begins, star_next, star_stops, star_ends, right_side}
use Rattle.ct_decide.proofs.stars.add_star.Goals as goal

pub loop-k-init : goal.loop-k-init
loop-k-init c = record {
  star = star_begins c.args.words.now c.args.aim c.args.model.now c.args.asking.now c.args.path.now c.requires.over c.requires.long c.requires.asking c.requires.room;
  from = omega arith;
}

pub add_triangle-requires-clause-right : goal.add_triangle-requires-clause-right
add_triangle-requires-clause-right c =
    right_side c.args.words.now c.args.aim c.args.model.now c.args.asking.now c.args.path.now c.requires.over c.requires.long c.loop-k.asking c.loop-k.k c.loop-k.invariant.from c.loop-k-test.true c.loop-k.invariant.star

pub returns-then-branch-clause-out : goal.returns-then-branch-clause-out
returns-then-branch-clause-out c =
    star_stops c.args.words.now c.args.aim c.args.model.now c.args.asking.now c.args.path.now c.requires.over c.requires.long c.loop-k.asking c.add_triangle.new.asking c.loop-k.k c.loop-k.invariant.from c.loop-k-test.true _
    c.loop-k.invariant.star c.in_ok-add_triangle.ensures c.if-branch.true

pub loop-k-preserved : goal.loop-k-preserved
loop-k-preserved c = record {
  star =
      star_next c.args.words.now c.args.aim c.args.model.now c.args.asking.now c.args.path.now c.requires.over c.requires.long c.loop-k.asking c.add_triangle.new.asking c.loop-k.k c.loop-k.invariant.from c.loop-k-test.true _
      c.loop-k.invariant.star c.in_ok-add_triangle.ensures c.if-branch.false;
  from = omega (arith, c.loop-k.invariant.from);
}

pub returns-clause-out : goal.returns-clause-out
returns-clause-out c =
    star_ends c.args.words.now c.args.aim c.args.model.now c.args.asking.now c.args.path.now c.requires.over c.requires.long c.loop-k.asking c.loop-k.k
    (omega (arith, c.loop-k-test.false, c.loop-k.auto.k-end, c.requires.long)) c.loop-k.invariant.star
