use Rattle.std.proofs.Common.{arith}
use Rattle.ct_cnf.proofs.Numbered.{atoms_fit}
use Rattle.ct_cnf.proofs.encoding.assemble.Goals as goal

pub overflow_cast-cnf : goal.overflow_cast-cnf
overflow_cast-cnf c = omega (arith, c.len.ensures, atoms_fit c.args.words.now c.args.root c.args.numbers c.requires)
