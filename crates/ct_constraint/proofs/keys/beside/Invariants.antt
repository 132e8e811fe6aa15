use Rattle.std.{proofs.Common.{false, take, [], ◌∷◌, ◌*◌, ◌+◌, length}, specs.Prelude.{◌⊎◌}}
use Rattle.ct_condition.{specs.Writes.Writes, specs.Terms.TermsFrom}
use Rattle.ct_operators.{specs.Building.HoldsWhere, specs.Tables.value_of_rows, specs.Terms.{TermOfRow, TermOfRows}}
use Rattle.ct_query.specs.Assertions.{keep_apart}
use Rattle.ct_constraint.proofs.keys.beside.Given as goal

abbrev pub invariant-loop-other : goal.invariant-loop-other
invariant-loop-other g l = record {
  writes : Writes g.I.Interner.list g.I.Interner.made g.I.Interner.kept g.I.Interner.lent g.N.Site.log.cap l.fn.pass l.pass (l.other-index * (length l.row.cells * 3 + 6)) false;
  holds : HoldsWhere (g.I.Interner.list l.pass) l.all
      (λ v. keep_apart l.columns (value_of_rows (g.I.Interner.list l.fn.pass) v (take l.other-index l.others)) (value_of_rows (g.I.Interner.list l.fn.pass) v (l.row ∷ [])));
  from : TermsFrom (g.I.Interner.list l.pass) l.all (λ t. TermOfRow (g.I.Interner.list l.fn.pass) l.row t ⊎ TermOfRows (g.I.Interner.list l.fn.pass) l.others t);
}
