use Rattle.std.proofs.Common.{◌≡◌, ◌++◌, take}
use Rattle.ct_worlds.specs.Nulls.{part_of}
use Rattle.ct_near.proofs.laying.joined.Given as goal

abbrev pub invariant-loop-pair : goal.invariant-loop-pair
invariant-loop-pair l = l.pairs.items ≡ l.initial.pairs.items ++ part_of l.nulls.listed.keys (take l.pair-index l.world)
