use Rattle.std.proofs.Common.{◌≡◌, drop}
use Rattle.ct_csv.specs.Underscores.{free_of_terms}
use Rattle.ct_csv.proofs.underscores.free_with_terms.Given as goal

abbrev pub invariant-loop-place : goal.invariant-loop-place
invariant-loop-place l = free_of_terms l.words l.free (drop l.place-index l.places) ≡ free_of_terms l.words l.from l.places
