use Rattle.std.proofs.Common.{◌≡◌, take}
use Rattle.ct_table.proofs.listed.Listed.copied.Given as goal

abbrev pub invariant-loop-place : goal.invariant-loop-place
invariant-loop-place l = l.rows.items ≡ take l.place l.self.rows
