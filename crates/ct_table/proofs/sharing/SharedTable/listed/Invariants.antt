use Rattle.std.proofs.Common.{◌≡◌, take}
use Rattle.ct_table.proofs.sharing.SharedTable.listed.Given as goal

abbrev pub invariant-loop-place : goal.invariant-loop-place
invariant-loop-place l = record {
  columns : l.listed.columns ≡ l.self.columns;
  rows : l.listed.rows ≡ take l.place l.self.rows;
}
