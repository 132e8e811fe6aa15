use Rattle.std.proofs.Common.{false, take, ◌*◌, ◌+◌, length}
use Rattle.ct_condition.{specs.Writes.Writes, specs.Terms.TermsFrom}
use Rattle.ct_operators.{specs.Building.HoldsWhere, specs.Tables.value_of_rows, specs.Terms.TermOfRows}
use Rattle.ct_query.specs.Assertions.{is_key}
use Rattle.ct_constraint.proofs.keys.key.Given as goal

abbrev pub invariant-loop-i : goal.invariant-loop-i
invariant-loop-i g l = record {
  writes : Writes g.I.Interner.list g.I.Interner.made g.I.Interner.kept g.I.Interner.lent g.N.Site.log.cap l.fn.pass l.pass (l.i * l.i * (2 * length l.table.columns + 3)) false;
  holds : HoldsWhere (g.I.Interner.list l.pass) l.all (λ v. is_key l.columns (value_of_rows (g.I.Interner.list l.fn.pass) v (take l.i l.table.rows)));
  from : TermsFrom (g.I.Interner.list l.pass) l.all (TermOfRows (g.I.Interner.list l.fn.pass) l.table.rows);
}
