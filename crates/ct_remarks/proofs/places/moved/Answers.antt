use Rattle.std.proofs.Common.{arith}
use Rattle.ct_remarks.proofs.Lines.{line_le, column_le, spot_more}
use Rattle.ct_remarks.proofs.places.moved.Goals as goal

pub behind-now-requires-clause-line : goal.behind-now-requires-clause-line
behind-now-requires-clause-line c = omega (arith, line_le c.args.script.now c.loop-at.now.at, c.loop-at.invariant.1.line)

pub behind-now-requires-clause-column : goal.behind-now-requires-clause-column
behind-now-requires-clause-column c = omega (arith, column_le c.args.script.now c.loop-at.now.at, c.loop-at.invariant.1.column)

pub loop-at-preserved : goal.loop-at-preserved
loop-at-preserved c = (
  omega (arith, c.behind-now.ensures.at, c.loop-at.invariant.0),
  spot_more c.args.script.now c.loop-at.now c.behind-now.result c.byte_at.result (omega (arith, c.loop-at.invariant.0, c.requires.within)) (cc (c.byte_at.ensures, c.loop-at.invariant.0)) c.loop-at.invariant.1
      c.behind-now.ensures.at c.behind-now.ensures.line c.behind-now.ensures.column,
)
