use Rattle.std.proofs.Common.{◌≡◌, drop}
use Rattle.ct_outside.specs.InMemory.{bytes_under}
use Rattle.ct_outside.proofs.mem_scripts.find.Given as goal

abbrev pub invariant-loop-other : goal.invariant-loop-other
invariant-loop-other l = bytes_under (drop l.other-index l.held) l.name ≡ bytes_under l.held l.name
