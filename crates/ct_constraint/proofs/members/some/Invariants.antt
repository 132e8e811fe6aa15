use Rattle.std.proofs.Common.{◌≡◌, false, take, ◌*◌, length}
use Rattle.ct_condition.{specs.Writes.Writes, specs.Terms.TermsFrom}
use Rattle.ct_operators.{specs.Building.HoldsWhere, specs.Tables.value_of_rows, specs.Terms.TermOfRows}
use Rattle.ct_query.specs.Assertions.{has_member}
use Rattle.ct_constraint.proofs.members.some.Given as goal

abbrev pub invariant-loop-row : goal.invariant-loop-row
invariant-loop-row g l = record {
  writes : Writes g.I.Interner.list g.I.Interner.made g.I.Interner.kept g.I.Interner.lent g.N.Site.log.cap l.fn.pass l.pass (l.row-index * 1) false;
  holds : HoldsWhere (g.I.Interner.list l.pass) l.any (λ v. has_member (value_of_rows (g.I.Interner.list l.fn.pass) v (take l.row-index l.table.rows)));
  from : TermsFrom (g.I.Interner.list l.pass) l.any (TermOfRows (g.I.Interner.list l.fn.pass) l.table.rows);
  none : length l.table.rows ≡ 0 → l.any ≡ 1;
}
