use Rattle.std.proofs.Common.{◌≡◌, drop}
use Rattle.ct_csv.specs.Underscores.{free_of_all}
use Rattle.ct_csv.proofs.underscores.free_of_all.Given as goal

abbrev pub invariant-loop-null : goal.invariant-loop-null
invariant-loop-null l = free_of_all l.free (drop l.null-index l.nulls) ≡ free_of_all l.from l.nulls
