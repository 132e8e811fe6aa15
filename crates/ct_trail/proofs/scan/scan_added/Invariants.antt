use Rattle.std.{proofs.Common.{◌≡◌, take, true}, specs.List.list_all}
use Rattle.ct_trail.specs.{Assignment.satisfied, Log.added_in}
use Rattle.ct_trail.proofs.scan.scan_added.Given as goal

abbrev pub invariant-loop-k : goal.invariant-loop-k
invariant-loop-k l = list_all (satisfied l.truths) (added_in (take l.k l.entries)) ≡ true
