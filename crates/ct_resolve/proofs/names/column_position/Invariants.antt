use Rattle.std.proofs.Common.{◌≡◌, ◌++◌, drop}
use Rattle.ct_resolve.specs.Names.{position_of, positions_from}
use Rattle.ct_resolve.proofs.names.column_position.Given as goal

abbrev pub invariant-loop-table : goal.invariant-loop-table
invariant-loop-table l =
    position_of 0 l.found ++ positions_from l.start (drop l.table-index l.scope) l.column ≡ positions_from 0 l.scope l.column
