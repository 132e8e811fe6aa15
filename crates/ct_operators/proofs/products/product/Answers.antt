use Rattle.std.{proofs.Common.{◌∙◌, length, ap, sym, subst, arith, ◌++◌}, specs.Prelude.{All, IfOk}, specs.List.IsDistinct}
use Rattle.std.{proofs.lemmas.List.length-append, proofs.lemmas.Result.{IfOk-weaker, err_from_is_err_and}}
use Rattle.ct_word.{specs.Value.same_cells, specs.Sublist.IsSublist}
use Rattle.ct_query.{specs.Database.SameSet, specs.Rows.joins}
use Rattle.ct_condition.proofs.Writes.{writes_none, writes_both, writes_within}
use Rattle.ct_operators.{specs.Tables.{IsRow, AreRows, value_of_rows, cells_of, firsts}, proofs.Firsts.part_of_merged, proofs.Adding.none_repeats}
use Rattle.ct_operators.{proofs.Pairing.joined_apart, specs.Terms.{TermOfRows, RowsFrom}, proofs.Reaching.{rows_wider, from_rows}}
use Rattle.ct_operators.proofs.products.product.Goals as goal

pub merged-requires : goal.merged-requires
merged-requires g c =
    record {
      rows = subst (λ n. All (IsRow (g.I.Interner.list c.pairs.new.pass) n) c.in_ok-pairs.pairs.items)
          (sym (ap (λ cs. length cs) (c.in_ok-names.ensures ∙ (λ i. c.columns.ensures i ++ c.columns-2.ensures i)) ∙ length-append (g.L.RowSource.table c.args.left.now).columns (g.R.RowSource.table c.args.right.now).columns)) c.in_ok-pairs.ensures.pairs.each;
    }

pub returns-clause-rows : goal.returns-clause-rows
returns-clause-rows g c =
    subst (λ n. IfOk c.merged.result (λ out. AreRows (g.I.Interner.list c.merged.new.pass) n out.rows))
    (ap (λ cs. length cs) (c.in_ok-names.ensures ∙ (λ i. c.columns.ensures i ++ c.columns-2.ensures i)) ∙ length-append (g.L.RowSource.table c.args.left.now).columns (g.R.RowSource.table c.args.right.now).columns) c.merged.ensures.rows

pub returns-clause-tuples : goal.returns-clause-tuples
returns-clause-tuples g c v =
    subst (λ l. IfOk c.merged.result (λ out. SameSet (value_of_rows (g.I.Interner.list c.merged.new.pass) v out.rows) l)) (c.in_ok-pairs.ensures.pairs.worth_is v) (c.merged.ensures.tuples v)

pub returns-clause-part : goal.returns-clause-part
returns-clause-part g c =
    let old = g.I.Interner.list c.args.pass.now in
    let new = g.I.Interner.list c.merged.new.pass in
    part_of_merged new c.merged.result (joins (cells_of old (g.L.RowSource.table c.args.left.now).rows) (cells_of old (g.R.RowSource.table c.args.right.now).rows))
    (subst (λ l. IfOk c.merged.result (λ out. IsSublist (cells_of new out.rows) (firsts same_cells l))) c.in_ok-pairs.ensures.pairs.cells_are c.merged.ensures.order)

pub returns-clause-writes : goal.returns-clause-writes
returns-clause-writes g c =
    let old = g.I.Interner.list c.args.pass.now in
    let mid = g.I.Interner.list c.pairs.new.pass in
    -- pairs of rows of distinct cells have distinct cells
    let apart = joined_apart old (length (g.L.RowSource.table c.args.left.now).columns) (length (g.R.RowSource.table c.args.right.now).columns) (g.L.RowSource.table c.args.left.now).rows (g.R.RowSource.table c.args.right.now).rows c.requires.left c.requires.right in
    let none = none_repeats mid c.in_ok-pairs.pairs.items (subst (IsDistinct same_cells) (sym c.in_ok-pairs.ensures.pairs.cells_are) apart) in
    writes_within _ (omega (arith, none)) (writes_both c.in_ok-pairs.ensures.writes c.merged.ensures.writes)

pub returns-in_err-names-clause-writes : goal.returns-in_err-names-clause-writes
returns-in_err-names-clause-writes g c =
    let exit = err_from_is_err_and c.from_residual.result c.from_residual.ensures.1 in
    rw (exit.1, exit.2) (writes_none _ c.words.ensures.formed c.words.ensures.room)

pub returns-in_err-pairs-clause-writes : goal.returns-in_err-pairs-clause-writes
returns-in_err-pairs-clause-writes g c =
    let exit = err_from_is_err_and c.from_residual-in_err-pairs.result c.from_residual-in_err-pairs.ensures.1 in
    rw (exit.1, exit.2) c.in_err-pairs.ensures.writes

pub returns-clause-terms : goal.returns-clause-terms
returns-clause-terms g c =
    let mid = g.I.Interner.list c.pairs.new.pass in
    let new = g.I.Interner.list c.merged.new.pass in
    let source = TermOfRows (g.I.Interner.list c.args.pass.now) ((g.L.RowSource.table c.args.left.now).rows ++ (g.R.RowSource.table c.args.right.now).rows) in
    IfOk-weaker c.merged.result (λ out. RowsFrom new out.rows (TermOfRows mid c.in_ok-pairs.pairs.items)) (λ out. RowsFrom new out.rows source)
    (λ out. rows_wider new (TermOfRows mid c.in_ok-pairs.pairs.items) source (from_rows mid c.in_ok-pairs.pairs.items source c.in_ok-pairs.ensures.pairs.from) out.rows)
    c.merged.ensures.terms
