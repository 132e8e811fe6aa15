use Rattle.std.proofs.Common.{◌≡◌, false, replicate, drop}
use Rattle.std.specs.Prelude.{flat_map}
use Rattle.ct_tidy.specs.{Marks.with_marks, Spread.{places_in_row, places_in_table}}
use Rattle.ct_tidy.proofs.spreading.marks_of.Given as goal

abbrev pub invariant-loop-row : goal.invariant-loop-row
invariant-loop-row l = with_marks l.marks.items (flat_map places_in_row (drop l.row-index l.rows)) ≡ with_marks (replicate l.count false) (places_in_table l.global l.rows)
