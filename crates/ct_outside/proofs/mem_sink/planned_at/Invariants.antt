use Rattle.std.proofs.Common.{◌≡◌, drop}
use Rattle.ct_outside.specs.InMemory.{planned}
use Rattle.ct_outside.proofs.mem_sink.planned_at.Given as goal

abbrev pub invariant-loop-number : goal.invariant-loop-number
invariant-loop-number l = planned (drop l.number-index l.fails) l.call ≡ planned l.fails l.call
