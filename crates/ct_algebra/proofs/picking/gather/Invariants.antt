use Rattle.std.proofs.Common.{false, ◌*◌, ◌++◌, List, map, take, length}
use Rattle.ct_word.specs.declared.values.CRow.{CRow}
use Rattle.ct_condition.specs.Writes.{Writes}
use Rattle.ct_operators.{specs.Merging.AreGathered, specs.Projection.picked_row}
use Rattle.ct_algebra.proofs.picking.gather.Given as goal

abbrev pub invariant-loop-row : goal.invariant-loop-row
invariant-loop-row g l = record {
  gathers : (done : List CRow) → AreGathered (g.I.Interner.list l.fn.pass) (length l.columns) done l.fn.gathering
      → AreGathered (g.I.Interner.list l.pass) (length l.columns) (done ++ map (picked_row l.columns) (take l.row-index l.rows)) l.gathering;
  writes : Writes g.I.Interner.list g.I.Interner.made g.I.Interner.kept g.I.Interner.lent g.N.Site.log.cap l.fn.pass l.pass (l.row-index * 1) false;
}
