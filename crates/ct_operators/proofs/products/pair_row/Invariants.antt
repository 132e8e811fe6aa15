use Rattle.std.proofs.Common.{false, ◌+◌, [], ◌∷◌, ◌++◌, take, map, length, ◌*◌}
use Rattle.ct_word.specs.Reading.{term_at}
use Rattle.ct_condition.specs.Writes.{Writes}
use Rattle.ct_operators.{specs.Tables.{cells_of, value_of_rows}, specs.Building.Builds, specs.Terms.TermOfRows}
use Rattle.ct_query.specs.Rows.{joins}
use Rattle.ct_operators.proofs.products.pair_row.Given as goal

abbrev pub invariant-loop-nth : goal.invariant-loop-nth
invariant-loop-nth g l = record {
  builds : Builds (g.I.Interner.list l.fn.pass) (g.I.Interner.list l.pass) (length l.row.cells + length (g.R.RowSource.table l.right).columns)
      (map (λ c. map (term_at (g.I.Interner.list l.fn.pass)) l.row.cells ++ c) (cells_of (g.I.Interner.list l.fn.pass) (take l.nth (g.R.RowSource.table l.right).rows)))
      (λ v. joins (value_of_rows (g.I.Interner.list l.fn.pass) v (l.row ∷ [])) (value_of_rows (g.I.Interner.list l.fn.pass) v (take l.nth (g.R.RowSource.table l.right).rows))) (TermOfRows (g.I.Interner.list l.fn.pass) (l.row ∷ (g.R.RowSource.table l.right).rows)) l.pairs.items;
  writes : Writes g.I.Interner.list g.I.Interner.made g.I.Interner.kept g.I.Interner.lent g.N.Site.log.cap l.fn.pass l.pass (l.nth * 1) false;
}
