use Rattle.std.proofs.Common.{length}
use Rattle.ct_update.proofs.Replacing.{ReplacedSo}
use Rattle.ct_update.proofs.revising.replaced.Given as goal

abbrev pub invariant-loop-nth : goal.invariant-loop-nth
invariant-loop-nth g l = ReplacedSo l.words (length (g.T.RowSource.table l.table).columns) l.sets l.nth (g.T.RowSource.table l.table).rows l.conds l.edits.items
