use Rattle.std.proofs.Common.{◌≡◌, ◌++◌, map, drop}
use Rattle.ct_resolve.specs.Queries.{visible, table_of, tables_of}
use Rattle.ct_resolve.proofs.tables.visible_names.Given as goal

abbrev pub invariant-loop-joined : goal.invariant-loop-joined
invariant-loop-joined l = l.names.items ++ map visible (map table_of (drop l.joined-index l.tables.rest)) ≡ map visible (tables_of l.tables)
