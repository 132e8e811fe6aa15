use Rattle.std.{proofs.Common.{false, ◌*◌, take, length}, specs.List.filter}
use Rattle.ct_condition.specs.Writes.{Writes}
use Rattle.ct_operators.specs.Merging.{AreGathered, is_possible}
use Rattle.ct_update.specs.Updating.{all_halves}
use Rattle.ct_update.proofs.putting.gathered.Given as goal

abbrev pub invariant-loop-nth : goal.invariant-loop-nth
invariant-loop-nth g l = record {
  gathered : AreGathered (g.I.Interner.list l.pass) (length (g.T.RowSource.table l.table).columns)
      (filter is_possible (all_halves (g.I.Interner.list l.fn.pass) l.sets (take l.nth (g.T.RowSource.table l.table).rows) (take l.nth l.conds))) l.gathering;
  writes : Writes g.I.Interner.list g.I.Interner.made g.I.Interner.kept g.I.Interner.lent g.N.Site.log.cap l.fn.pass l.pass (l.nth * 2) false;
}
