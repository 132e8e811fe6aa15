use Rattle.std.proofs.Common.{false, ◌+◌, ◌*◌, ◌++◌, take, length}
use Rattle.ct_query.specs.Pred.{condition_of}
use Rattle.ct_condition.specs.Writes.{Writes}
use Rattle.ct_algebra.specs.Joining.{MakesPairs, TermOfJoin, pair_words}
use Rattle.ct_algebra.proofs.joining.joined.Given as goal

abbrev pub invariant-loop-nth : goal.invariant-loop-nth
invariant-loop-nth g l = record {
  made : MakesPairs (g.I.Interner.list l.fn.pass) (g.I.Interner.list l.pass) (length l.left.columns + length l.right.columns) (condition_of l.asked.pred.now) (take l.nth l.left.rows) l.right.rows
      (TermOfJoin (g.I.Interner.list l.fn.pass) (condition_of l.asked.pred.now) (l.left.rows ++ l.right.rows)) l.out.items;
  writes : Writes g.I.Interner.list g.I.Interner.made g.I.Interner.kept g.I.Interner.lent g.N.Site.log.cap l.fn.pass l.pass (l.nth * (length l.right.rows * pair_words (condition_of l.asked.pred.now))) false;
}
