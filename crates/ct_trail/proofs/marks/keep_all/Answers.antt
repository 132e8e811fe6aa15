use Rattle.std.proofs.Common.{length, get_or, pos, arith}
use Rattle.ct_trail.{specs.Literal.LARGEST, proofs.Literals.literal_at, proofs.Assignments.{wider, place_within}}
use Rattle.ct_trail.proofs.marks.keep_all.Goals as goal

pub place-at-requires : goal.place-at-requires
place-at-requires c =
    let vars = length c.args.marks.now in
    let l = get_or c.args.clause.now c.loop-l.l-index (pos 0) in
    wider vars LARGEST l c.requires.vars (literal_at vars c.args.clause.now c.loop-l.l-index (pos 0) c.requires.within c.loop-l-test.true)

pub slice_copy_out-raise : goal.slice_copy_out-raise
slice_copy_out-raise c =
    let vars = length c.args.marks.now in
    let l = get_or c.args.clause.now c.loop-l.l-index (pos 0) in
    omega (arith, place_within vars l (literal_at vars c.args.clause.now c.loop-l.l-index (pos 0) c.requires.within c.loop-l-test.true), c.place-at.ensures, c.loop-l.auto.marks)

pub bounds-marks-at : goal.bounds-marks-at
bounds-marks-at c =
    let vars = length c.args.marks.now in
    let l = get_or c.args.clause.now c.loop-l.l-index (pos 0) in
    omega (arith, place_within vars l (literal_at vars c.args.clause.now c.loop-l.l-index (pos 0) c.requires.within c.loop-l-test.true), c.place-at.ensures, c.loop-l.auto.marks)
