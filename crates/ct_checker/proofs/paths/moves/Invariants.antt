use Rattle.std.proofs.Common.{◌≡◌, drop}
use Rattle.ct_derivation.specs.Path.{moves}
use Rattle.ct_checker.proofs.paths.moves.Given as goal

abbrev pub invariant-loop-place : goal.invariant-loop-place
invariant-loop-place l = moves l.last (drop l.place-index l.rest) ≡ moves l.first l.rest
