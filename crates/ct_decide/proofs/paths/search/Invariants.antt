use Rattle.std.proofs.Common.{◌≡◌, drop}
use Rattle.ct_decide.specs.Asking.{is_atom}
use Rattle.ct_decide.proofs.paths.search.Given as goal

abbrev pub invariant-loop-k : goal.invariant-loop-k
invariant-loop-k l = is_atom (drop l.k l.atoms) l.equality ≡ is_atom l.atoms l.equality
