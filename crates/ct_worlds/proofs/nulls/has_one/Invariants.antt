use Rattle.std.proofs.Common.{◌≡◌, take, false}
use Rattle.ct_worlds.specs.Nulls.{has_null}
use Rattle.ct_worlds.proofs.nulls.has_one.Given as goal

abbrev pub invariant-loop-own : goal.invariant-loop-own
invariant-loop-own l = has_null (take l.own-index l.listed) l.null ≡ false
