use Rattle.std.proofs.Common.{◌≡◌, take, map, false}
use Rattle.ct_trail.specs.declared.log.Entry.TheVariants as entry
use Rattle.ct_sat.proofs.solving.make.Given as goal

abbrev pub invariant-loop-clause : goal.invariant-loop-clause
invariant-loop-clause l = l.solver ≡ record { vars = l.cnf.vars; entries = map entry.Added (take l.clause-index l.cnf.clauses); failed = false }
