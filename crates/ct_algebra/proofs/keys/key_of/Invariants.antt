use Rattle.std.proofs.Common.{◌≡◌, drop}
use Rattle.ct_algebra.specs.Keyed.{key_from, key_of}
use Rattle.ct_algebra.proofs.keys.key_of.Given as goal

abbrev pub invariant-loop-equal : goal.invariant-loop-equal
invariant-loop-equal l = key_of l.words l.side l.equals l.cells ≡ key_from l.words l.side (drop l.equal-index l.equals) l.cells l.number
