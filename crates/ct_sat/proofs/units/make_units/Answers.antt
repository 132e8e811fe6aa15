use Rattle.ct_trail.proofs.Steps.{advances_then}
use Rattle.ct_sat.proofs.units.make_units.Goals as goal

pub returns-in_err-make_unit : goal.returns-in_err-make_unit
returns-in_err-make_unit c = advances_then c.args.board.now c.loop-i.board c.make_unit.new.board c.loop-i.invariant c.make_unit.ensures.advances

pub loop-i-preserved : goal.loop-i-preserved
loop-i-preserved c = advances_then c.args.board.now c.loop-i.board c.make_unit.new.board c.loop-i.invariant c.make_unit.ensures.advances
