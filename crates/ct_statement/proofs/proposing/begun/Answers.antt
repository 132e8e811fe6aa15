use Rattle.ct_condition.proofs.Writes.{writes_none}
use Rattle.ct_statement.proofs.proposing.begun.Goals as goal

pub returns-in-Some-clause-writes : goal.returns-in-Some-clause-writes
returns-in-Some-clause-writes g c = writes_none _ c.words.ensures.formed c.words.ensures.room
