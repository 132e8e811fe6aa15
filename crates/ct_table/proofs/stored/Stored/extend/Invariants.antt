use Rattle.std.proofs.Common.{◌≡◌, take}
use Rattle.ct_table.specs.Growing.{grown}
use mathlib.Core.List.{IsPrefix}
use Rattle.ct_table.proofs.stored.Stored.extend.Given as goal

abbrev pub invariant-loop-put : goal.invariant-loop-put
invariant-loop-put l = record {
  columns : l.self.columns ≡ l.fn.self.columns;
  front : IsPrefix l.fn.self.entries l.self.entries;
  entries : l.self.entries ≡ grown l.fn.self.entries (take l.put-index l.puts);
}
