use Rattle.std.proofs.Common.{◌≡◌, map, drop}
use Rattle.ct_resolve.{specs.Found.each, specs.Queries.{seen_table, table_of, tables_of}, proofs.Founds.behind}
use Rattle.ct_resolve.proofs.tables.scope_of.Given as goal

abbrev pub invariant-loop-joined : goal.invariant-loop-joined
invariant-loop-joined g l = behind l.found.items (each (seen_table (g.H.Headings.schema l.schema).tables) (map table_of (drop l.joined-index l.joined-items))) ≡ each (seen_table (g.H.Headings.schema l.schema).tables) (tables_of l.tables)
