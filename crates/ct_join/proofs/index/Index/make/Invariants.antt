use Rattle.std.proofs.Common.{◌≡◌, length}
use Rattle.ct_join.proofs.Walk.{IsPart}
use Rattle.ct_join.proofs.index.Index.make.Given as goal

abbrev pub invariant-loop-place : goal.invariant-loop-place
invariant-loop-place l = record {
  room : l.numbers.room ≡ length l.keys;
  part : IsPart l.keys l.numbers.keys l.nulls.items l.place;
}
