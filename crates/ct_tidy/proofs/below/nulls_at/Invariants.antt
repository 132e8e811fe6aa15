use Rattle.std.proofs.Common.{take}
use Rattle.ct_tidy.specs.Nulls.{AreNullsOf, IsTermAtSome}
use Rattle.ct_tidy.proofs.below.nulls_at.Given as goal

abbrev pub invariant-loop-place : goal.invariant-loop-place
invariant-loop-place l = AreNullsOf (IsTermAtSome l.words (take l.place-index l.places)) l.nulls.keys
