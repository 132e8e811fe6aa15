use Rattle.std.proofs.Common.{◌≡◌, drop}
use Rattle.ct_resolve.{specs.Found.each, specs.Names.column_in, proofs.Founds.behind}
use Rattle.ct_resolve.proofs.sets.positions.Given as goal

abbrev pub invariant-loop-name : goal.invariant-loop-name
invariant-loop-name l = behind l.found.items (each (column_in l.table) (drop l.name-index l.names)) ≡ each (column_in l.table) l.names
