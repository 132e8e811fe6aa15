use Rattle.std.proofs.Common.{◌≡◌, ◌++◌, map, drop}
use Rattle.ct_resolve.proofs.selects.unzipped.Given as goal

abbrev pub invariant-loop-pick : goal.invariant-loop-pick
invariant-loop-pick l = record {
  positions : l.positions.items ++ map (λ p. p.0) (drop l.pick-index l.picked) ≡ map (λ p. p.0) l.picked;
  names : l.names.items ++ map (λ p. p.1) (drop l.pick-index l.picked) ≡ map (λ p. p.1) l.picked;
}
