use Rattle.std.proofs.Common.{false, ◌+◌, ◌*◌, [], ◌∷◌, take, length}
use Rattle.ct_query.specs.Pred.{condition_of}
use Rattle.ct_condition.specs.Writes.{Writes}
use Rattle.ct_algebra.specs.Joining.{MakesPairs, TermOfJoin, rows_at, pair_words}
use Rattle.ct_algebra.proofs.joining.joined_at.Given as goal

abbrev pub invariant-loop-place : goal.invariant-loop-place
invariant-loop-place g l = record {
  made : MakesPairs (g.I.Interner.list l.fn.pass) (g.I.Interner.list l.pass) (length l.left.cells + length l.right.columns) (condition_of l.asked.pred.now) (l.left ∷ [])
      (rows_at l.right.rows l.left (take l.place-index l.places)) (TermOfJoin (g.I.Interner.list l.fn.pass) (condition_of l.asked.pred.now) (l.left ∷ l.right.rows)) l.out.items;
  writes : Writes g.I.Interner.list g.I.Interner.made g.I.Interner.kept g.I.Interner.lent g.N.Site.log.cap l.fn.pass l.pass (l.place-index * pair_words (condition_of l.asked.pred.now)) false;
}
