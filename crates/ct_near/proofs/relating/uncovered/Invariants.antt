use Rattle.std.{proofs.Common.{◌≡◌, true, take}, specs.List.{list_all}}
use Rattle.ct_near.specs.Conjuncts.{is_covered}
use Rattle.ct_near.proofs.relating.uncovered.Given as goal

abbrev pub invariant-loop-entry : goal.invariant-loop-entry
invariant-loop-entry l = list_all (is_covered l.is_asked l.nulls) (take l.entry-index l.index.entries.items) ≡ true
