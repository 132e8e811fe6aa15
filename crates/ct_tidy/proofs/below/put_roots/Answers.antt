use Rattle.ct_tidy.proofs.Gathered.{put_one, put_turn}
use Rattle.ct_tidy.proofs.below.put_roots.Goals as goal

pub loop-cell-init : goal.loop-cell-init
loop-cell-init c = put_one c.args.places.now.keys c.args.cond c.insert.new.self.keys c.in_ok-insert.ensures.keys

pub loop-cell-preserved : goal.loop-cell-preserved
loop-cell-preserved c = put_turn c.args.places.now.keys c.args.cells.now c.args.cond c.loop-cell.cell-index c.loop-cell.places.keys c.insert-in-loop-cell.new.self.keys c.loop-cell-test.true c.loop-cell.invariant c.in_ok-insert-2.ensures.keys
