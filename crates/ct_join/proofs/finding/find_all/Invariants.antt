use Rattle.std.proofs.Common.{◌≡◌, ◌++◌}
use Rattle.ct_join.specs.Pairs.{places_below}
use Rattle.ct_join.proofs.finding.find_all.Given as goal

abbrev pub invariant-loop-place : goal.invariant-loop-place
invariant-loop-place l = l.found.items ≡ l.fn.found.items ++ places_below l.place
