use Rattle.std.proofs.Common.{◌≡◌, ◌+◌, ◌++◌, drop}
use Rattle.ct_resolve.specs.Queries.{numbered}
use Rattle.ct_resolve.proofs.tables.pick_all.Given as goal

abbrev pub invariant-loop-name : goal.invariant-loop-name
invariant-loop-name l = record {
  picked : l.picked.items ++ numbered l.next (drop l.name-index l.table.columns) ≡ l.initial.picked.items ++ numbered l.start l.table.columns;
  next : l.next ≡ l.start + l.name-index;
}
