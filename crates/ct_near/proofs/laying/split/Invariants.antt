use Rattle.std.proofs.Common.{◌≡◌, take}
use Rattle.ct_worlds.specs.Nulls.{part_of}
use Rattle.ct_near.specs.Near.{rest_of}
use Rattle.ct_near.proofs.laying.split.Given as goal

abbrev pub invariant-loop-pair : goal.invariant-loop-pair
invariant-loop-pair l = record {
  part : l.part.items ≡ part_of l.nulls.listed.keys (take l.pair-index l.world);
  rest : l.rest.items ≡ rest_of l.nulls.listed.keys (take l.pair-index l.world);
}
