use Rattle.std.proofs.Common.{◌≡◌, take, map}
use Rattle.ct_operators.specs.Projection.{picked_row}
use Rattle.ct_operators.proofs.projection.pick_each.Given as goal

abbrev pub invariant-loop-nth : goal.invariant-loop-nth
invariant-loop-nth g l = l.out.items ≡ map (picked_row l.columns) (take l.nth (g.T.RowSource.table l.table).rows)
