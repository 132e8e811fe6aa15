use Rattle.std.proofs.Common.{◌≡◌, [], length, take}
use Rattle.ct_table.specs.Growing.{put_each, entries_of}
use Rattle.ct_table.proofs.stored.Stored.make.Given as goal

abbrev pub invariant-loop-row : goal.invariant-loop-row
invariant-loop-row l = l.stored ≡ put_each [] (entries_of (take (length l.yielded) l.fn.table.rows))
