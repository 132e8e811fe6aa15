use Rattle.ct_query.specs.Pred.{condition_of}
use Rattle.ct_condition.proofs.Writes.{writes_as}
use Rattle.ct_algebra.proofs.Pairs.{pred_words}
use Rattle.ct_algebra.proofs.joining.placed.Goals as goal

pub returns-clause-writes : goal.returns-clause-writes
returns-clause-writes g c = writes_as (pred_words (g.I.Interner.list c.args.pass.now) c.args.cells.now (condition_of c.args.p.now) c.requires.fits c.requires.placed) c.pred-put.ensures.writes
