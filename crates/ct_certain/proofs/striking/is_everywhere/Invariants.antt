use Rattle.std.proofs.Common.{◌≡◌, true, take}
use Rattle.ct_certain.specs.Missing.{is_in_each}
use Rattle.ct_certain.proofs.striking.is_everywhere.Given as goal

abbrev pub invariant-loop-seen : goal.invariant-loop-seen
invariant-loop-seen l = is_in_each (take l.seen-index l.pool) l.tuple ≡ true
