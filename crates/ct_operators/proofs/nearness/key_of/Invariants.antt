use Rattle.std.proofs.Common.{◌≡◌, drop}
use Rattle.ct_operators.specs.Nearness.{key_from, row_key}
use Rattle.ct_operators.proofs.nearness.key_of.Given as goal

abbrev pub invariant-loop-cell : goal.invariant-loop-cell
invariant-loop-cell l = key_from l.words l.number (drop l.cell-index l.cells) ≡ row_key l.words l.cells
