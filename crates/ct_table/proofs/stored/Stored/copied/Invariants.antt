use Rattle.std.proofs.Common.{◌≡◌, take}
use Rattle.ct_operators.specs.Merging.{rows_of}
use Rattle.ct_table.proofs.stored.Stored.copied.Given as goal

abbrev pub invariant-loop-place : goal.invariant-loop-place
invariant-loop-place l = l.rows.items ≡ take l.place (rows_of l.self.entries)
