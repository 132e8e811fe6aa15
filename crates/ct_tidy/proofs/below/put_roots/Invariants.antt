use Rattle.std.proofs.Common.{◌∷◌, take}
use Rattle.ct_tidy.specs.Nulls.{ArePut}
use Rattle.ct_tidy.proofs.below.put_roots.Given as goal

abbrev pub invariant-loop-cell : goal.invariant-loop-cell
invariant-loop-cell l = ArePut l.fn.places.keys (l.cond ∷ take l.cell-index l.cells) l.places.keys
