use Rattle.std.{proofs.Common.sym, proofs.lemmas.List.Folds.list_any_at}
use Rattle.ct_derivation.specs.Literal.{same_lit, has}
use Rattle.ct_checker.proofs.Chains.{past, goes_on, ends}
use Rattle.ct_checker.proofs.marks.is_chained.Goals as goal

pub returns-then-is_same : goal.returns-then-is_same
unfolding has
returns-then-is_same c = sym (list_any_at (same_lit c.args.literal.now) c.args.falses.now c.loop-place.place _ c.loop-place-test.true (sym c.if-is_same.ensures))

pub returns-then-lower-place : goal.returns-then-lower-place
returns-then-lower-place c =
    sym (ends c.args.falses.now c.args.next.now c.args.literal.now c.loop-place.place c.loop-place.invariant _ (sym c.if-is_same.ensures) c.loop-place-test.true c.if-lower-place.true)

pub loop-place-preserved : goal.loop-place-preserved
loop-place-preserved c =
    goes_on c.args.falses.now c.args.next.now c.args.literal.now c.loop-place.place c.loop-place.invariant _ (sym c.if-is_same.ensures) c.loop-place-test.true

pub returns : goal.returns
returns c = sym (past c.args.falses.now c.args.next.now c.args.literal.now c.loop-place.place c.loop-place.invariant c.loop-place-test.false)
