use Rattle.std.proofs.Common.{◌≡◌, take}
use Rattle.ct_update.specs.Updating.{updated_places}
use Rattle.ct_update.proofs.putting.with_sets.Given as goal

abbrev pub invariant-loop-number : goal.invariant-loop-number
invariant-loop-number l = l.out.items ≡ updated_places l.words (take l.number l.sets) l.cells
