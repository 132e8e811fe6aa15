use Rattle.std.proofs.Common.{◌≡◌, take}
use Rattle.ct_tidy.specs.Nulls.{cut_to}
use Rattle.ct_tidy.proofs.cutting.cut.Given as goal

abbrev pub invariant-loop-pair : goal.invariant-loop-pair
invariant-loop-pair l = l.pairs.items ≡ cut_to l.some.keys l.others.keys (take l.pair-index l.world)
