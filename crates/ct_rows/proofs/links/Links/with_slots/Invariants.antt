use Rattle.std.proofs.Common.{◌≡◌, replicate}
use Rattle.ct_rows.proofs.links.Links.with_slots.Given as goal

abbrev pub invariant-loop : goal.invariant-loop
invariant-loop l = l.heads ≡ replicate l.counter 0
