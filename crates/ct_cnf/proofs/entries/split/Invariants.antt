use Rattle.std.proofs.Common.{◌≡◌, map}
use Rattle.ct_cnf.specs.Lists.{clause_of, why_of}
use Rattle.ct_cnf.proofs.entries.split.Given as goal

abbrev pub invariant-loop-entry : goal.invariant-loop-entry
invariant-loop-entry l = (l.clauses.items ≡ map clause_of l.yielded) × (l.origins.items ≡ map why_of l.yielded)
