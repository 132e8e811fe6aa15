use Rattle.std.proofs.Common.{◌≡◌, drop}
use Rattle.ct_tidy.specs.Marks.{with_marks}
use Rattle.ct_tidy.proofs.spreading.mark_cells.Given as goal

abbrev pub invariant-loop-cell : goal.invariant-loop-cell
invariant-loop-cell l = with_marks l.marks.items (drop l.cell-index l.cells) ≡ with_marks l.fn.marks.items l.cells
