use Rattle.std.proofs.Common.{◌≡◌, ◌++◌, drop}
use Rattle.ct_resolve.specs.Queries.{numbered, columns_of}
use Rattle.ct_resolve.proofs.tables.all_columns.Given as goal

abbrev pub invariant-loop-table : goal.invariant-loop-table
invariant-loop-table l = l.picked.items ++ numbered l.next (columns_of (drop l.table-index l.scope)) ≡ numbered 0 (columns_of l.scope)
