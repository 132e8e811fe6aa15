use Rattle.std.proofs.Common.{◌≡◌, drop}
use Rattle.ct_derivation.specs.Path.{end_of}
use Rattle.ct_checker.proofs.paths.end.Given as goal

abbrev pub invariant-loop-place : goal.invariant-loop-place
invariant-loop-place l = end_of l.last (drop l.place-index l.rest) ≡ end_of l.first l.rest
