use Rattle.std.proofs.Common.{◌≡◌, take}
use Rattle.ct_cnf.specs.Encoding.{through}
use Rattle.ct_cut.proofs.translating.clause.Given as goal

abbrev pub invariant-loop-l : goal.invariant-loop-l
invariant-loop-l l = l.clause.items ≡ through l.atoms (take l.l-index l.literals)
