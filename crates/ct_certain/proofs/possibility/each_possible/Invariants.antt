use Rattle.std.{proofs.Common.{false, take, ◌*◌}, specs.Prelude.All}
use Rattle.ct_condition.specs.Writes.{Writes}
use Rattle.ct_certain.{specs.Answered.IsPool, specs.Own.IsOwn, specs.Possible.ListsPossible}
use Rattle.ct_certain.proofs.possibility.each_possible.Given as goal

abbrev pub invariant-loop-row : goal.invariant-loop-row
invariant-loop-row g l = record {
  writes : Writes g.I.Interner.list g.I.Interner.made g.I.Interner.kept g.I.Interner.lent g.N.Site.log.cap l.fn.pass l.pass (l.row-index * 1) false;
  lists : ListsPossible (g.I.Interner.list l.fn.pass) l.global (take l.row-index l.rows) l.list.items;
  own : All (IsOwn (g.I.Interner.list l.fn.pass) l.global l.rows) l.list.items;
  pool : IsPool (g.I.Interner.list l.fn.pass) l.global l.pool;
}
