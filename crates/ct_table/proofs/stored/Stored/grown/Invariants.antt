use Rattle.std.proofs.Common.{◌≡◌, take}
use Rattle.ct_table.specs.Growing.{grown}
use Rattle.ct_table.proofs.stored.Stored.grown.Given as goal

abbrev pub invariant-loop-put : goal.invariant-loop-put
invariant-loop-put l = l.rows ≡ grown l.fn.self.entries (take l.put-index l.puts)
