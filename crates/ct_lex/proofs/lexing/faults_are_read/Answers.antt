use Rattle.ct_lex.proofs.Readings.{read_fault}
use Rattle.ct_lex.proofs.lexing.faults_are_read.Goals as goal

pub returns : goal.returns
returns c = λ text place e faults. read_fault faults
