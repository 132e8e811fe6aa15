use Rattle.ct_condition.proofs.Writes.{writes_none}
use Rattle.ct_statement.proofs.proposing.propose.Goals as goal

pub returns-in-Err-clause-writes : goal.returns-in-Err-clause-writes
returns-in-Err-clause-writes g c = writes_none _ c.words.ensures.formed c.words.ensures.room
