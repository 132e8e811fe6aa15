use Rattle.std.proofs.Common.{◌≡◌, drop}
use Rattle.ct_resolve.specs.Names.{place_from}
use Rattle.ct_resolve.proofs.names.place.Given as goal

abbrev pub invariant-loop-k : goal.invariant-loop-k
invariant-loop-k l = place_from l.k (drop l.k l.names) l.name ≡ place_from 0 l.names l.name
