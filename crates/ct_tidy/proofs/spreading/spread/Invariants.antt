use Rattle.ct_tidy.{specs.Spread.places_in_table, proofs.Counted.IsSpreading}
use Rattle.ct_tidy.proofs.spreading.spread.Given as goal

abbrev pub invariant-loop-place : goal.invariant-loop-place
invariant-loop-place l = IsSpreading l.words (places_in_table l.global l.rows) l.place l.marks.items l.world.items
