use Rattle.std.proofs.Common.{false, take, ◌*◌, ◌++◌, length}
use Rattle.ct_condition.specs.Writes.{Writes}
use Rattle.ct_operators.specs.Merging.{rows_of, Gathers}
use Rattle.ct_table.specs.Growing.{put_each, Apart, Fits}
use Rattle.ct_table.proofs.preparing.gathered.Given as goal

abbrev pub invariant-loop-row : goal.invariant-loop-row
invariant-loop-row g l = record {
  writes : Writes g.I.Interner.list g.I.Interner.made g.I.Interner.kept g.I.Interner.lent g.N.Site.log.cap l.fn.pass l.pass (l.row-index * 1) false;
  gathers : Gathers (g.I.Interner.list l.fn.pass) (g.I.Interner.list l.pass) (length l.stored.columns) (rows_of l.stored.entries ++ take l.row-index l.rows) (rows_of (put_each l.stored.entries l.pending.entries));
  apart : Apart l.pending.entries;
  fits : Fits l.stored.entries l.pending.entries;
}
