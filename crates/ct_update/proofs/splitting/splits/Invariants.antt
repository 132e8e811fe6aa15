use Rattle.std.proofs.Common.{◌≡◌, ℕ, List, false, ◌+◌, ◌*◌, take, length}
use Rattle.ct_word.specs.Reading.{condition_at}
use Rattle.ct_query.specs.Bounds.{ops}
use Rattle.ct_condition.specs.Writes.{Writes}
use Rattle.ct_update.specs.Updating.{FitsUpdate, AreSplit}
use Rattle.ct_update.proofs.splitting.splits.Given as goal

abbrev pub invariant-loop-nth : goal.invariant-loop-nth
invariant-loop-nth g l = record {
  split :
      (sets : List (ℕ × ℕ)) → FitsUpdate (g.I.Interner.list l.fn.pass) (length (g.T.RowSource.table l.table).columns) sets l.cond
      → AreSplit (g.I.Interner.list l.fn.pass) (g.I.Interner.list l.pass) (length (g.T.RowSource.table l.table).columns) sets l.cond (take l.nth (g.T.RowSource.table l.table).rows) l.conds.items;
  long : length l.put.items ≡ length l.places.items;
  writes : Writes g.I.Interner.list g.I.Interner.made g.I.Interner.kept g.I.Interner.lent g.N.Site.log.cap l.fn.pass l.pass
      (l.nth * (ops (condition_at (g.I.Interner.list l.fn.pass) l.cond) + 3)) false;
}
