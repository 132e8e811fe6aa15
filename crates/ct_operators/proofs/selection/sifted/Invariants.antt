use Rattle.std.{proofs.Common.{◌≡◌, ◌≤◌, ◌+◌, ◌*◌, false, take, length}, specs.Prelude.{◌⊎◌}}
use Rattle.ct_condition.specs.Writes.{Writes}
use Rattle.ct_operators.{proofs.Selecting.Selects, specs.Terms.TermOfRows, specs.Judging.{passes, parts_in, Further, first_words, test_words}}
use Rattle.ct_operators.proofs.selection.sifted.Given as goal

abbrev pub invariant-loop-nth : goal.invariant-loop-nth
invariant-loop-nth g l = record {
  selects : Selects (g.I.Interner.list l.fn.pass) (g.I.Interner.list l.pass) (length (g.T.RowSource.table l.table).columns) (passes (g.I.Interner.list l.fn.pass) l.test)
      (λ t. TermOfRows (g.I.Interner.list l.fn.pass) (g.T.RowSource.table l.table).rows t ⊎ Further (g.I.Interner.list l.fn.pass) l.test t) (take l.nth (g.T.RowSource.table l.table).rows) l.out.items;
  long : length l.put.items ≡ length (parts_in l.test);
  writes : Writes g.I.Interner.list g.I.Interner.made g.I.Interner.kept g.I.Interner.lent g.N.Site.log.cap l.fn.pass l.pass
      (first_words (g.I.Interner.list l.fn.pass) l.test + length (g.T.RowSource.table l.table).rows * (test_words (g.I.Interner.list l.fn.pass) (length (g.T.RowSource.table l.table).columns) l.test + 1)) false;
  made :
      g.I.Interner.made l.pass + first_words (g.I.Interner.list l.pass) l.test
      ≤ g.I.Interner.made l.fn.pass + first_words (g.I.Interner.list l.fn.pass) l.test + l.nth * (test_words (g.I.Interner.list l.fn.pass) (length (g.T.RowSource.table l.table).columns) l.test + 1);
}
