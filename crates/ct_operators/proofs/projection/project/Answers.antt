use Rattle.std.{proofs.Common.{◌≡◌, ◌∙◌, [], length, map, ap, sym, subst, arith}, specs.Prelude.{All, IfOk, slice_index_or}, proofs.lemmas.List.length-map}
use Rattle.std.proofs.lemmas.Result.{IfOk-weaker, err_from_is_err_and}
use Rattle.ct_word.{specs.Value.same_cells, specs.Sublist.IsSublist}
use Rattle.ct_query.{specs.Database.SameSet, specs.Patterns.picked}
use Rattle.ct_condition.proofs.Writes.{writes_none, writes_within}
use Rattle.ct_operators.{specs.Tables.{IsRow, AreRows, value_of_rows, cells_of, firsts}, specs.Projection.picked_row, proofs.Firsts.part_of_merged}
use Rattle.ct_operators.{proofs.Projecting.{all_within, picked_rows, cells_picked, value_picked, picked_from}, specs.Terms.{TermOfRows, RowsFrom}}
use Rattle.ct_operators.proofs.Reaching.{rows_itself, rows_wider, from_rows}
use Rattle.ct_operators.proofs.projection.project.Goals as goal

pub pick_each-requires : goal.pick_each-requires
pick_each-requires g c =
    all_within (g.I.Interner.list c.args.pass.now) (length (g.T.RowSource.table c.args.table.now).columns) c.args.columns.now c.requires.columns (g.T.RowSource.table c.args.table.now).rows c.requires.rows.each

pub merged-requires : goal.merged-requires
merged-requires g c =
    let old = g.I.Interner.list c.args.pass.now in
    let rows = (g.T.RowSource.table c.args.table.now).rows in
    let ks = c.args.columns.now in
    record {
      rows = subst (λ n. All (IsRow old n) c.in_ok-rows.rows.items) (sym (ap (λ cs. length cs) c.in_ok-names.ensures ∙ length-map ks _))
          (subst (All (IsRow old (length ks))) (sym c.in_ok-rows.ensures)
          (picked_rows old (length (g.T.RowSource.table c.args.table.now).columns) ks c.requires.columns rows c.requires.rows.each));
    }

pub returns-clause-columns : goal.returns-clause-columns
returns-clause-columns g c =
    subst (λ l. IfOk c.merged.result (λ out. out.columns ≡ l)) (c.in_ok-names.ensures ∙ ap (λ ns. map (λ k. slice_index_or ns k []) c.args.columns.now) c.columns.ensures) c.merged.ensures.columns

pub returns-clause-rows : goal.returns-clause-rows
returns-clause-rows g c =
    subst (λ n. IfOk c.merged.result (λ out. AreRows (g.I.Interner.list c.merged.new.pass) n out.rows))
    (ap (λ cs. length cs) c.in_ok-names.ensures ∙ length-map c.args.columns.now _) c.merged.ensures.rows

pub returns-clause-tuples : goal.returns-clause-tuples
returns-clause-tuples g c v =
    let old = g.I.Interner.list c.args.pass.now in
    subst (λ l. IfOk c.merged.result (λ out. SameSet (value_of_rows (g.I.Interner.list c.merged.new.pass) v out.rows) l))
    (ap (value_of_rows old v) c.in_ok-rows.ensures
    ∙ value_picked old (length (g.T.RowSource.table c.args.table.now).columns) c.args.columns.now c.requires.columns v (g.T.RowSource.table c.args.table.now).rows c.requires.rows.each)
    (c.merged.ensures.tuples v)

pub returns-clause-order : goal.returns-clause-order
returns-clause-order g c =
    let old = g.I.Interner.list c.args.pass.now in
    subst (λ l. IfOk c.merged.result (λ out. IsSublist (cells_of (g.I.Interner.list c.merged.new.pass) out.rows) (firsts same_cells l)))
    (ap (cells_of old) c.in_ok-rows.ensures
    ∙ cells_picked old (length (g.T.RowSource.table c.args.table.now).columns) c.args.columns.now c.requires.columns (g.T.RowSource.table c.args.table.now).rows c.requires.rows.each)
    c.merged.ensures.order

pub returns-clause-part : goal.returns-clause-part
returns-clause-part g c =
    let old = g.I.Interner.list c.args.pass.now in
    part_of_merged (g.I.Interner.list c.merged.new.pass) c.merged.result (map (picked c.args.columns.now) (cells_of old (g.T.RowSource.table c.args.table.now).rows)) (returns-clause-order g c)

pub returns-clause-writes : goal.returns-clause-writes
returns-clause-writes g c =
    let long = ap (λ l. length l) c.in_ok-rows.ensures ∙ length-map (g.T.RowSource.table c.args.table.now).rows (picked_row c.args.columns.now) in
    writes_within _ (omega (arith, long)) c.merged.ensures.writes

pub returns-in_err-names-clause-writes : goal.returns-in_err-names-clause-writes
returns-in_err-names-clause-writes g c =
    let exit = err_from_is_err_and c.from_residual.result c.from_residual.ensures.1 in
    rw (exit.1, exit.2) (writes_none _ c.words.ensures.formed c.words.ensures.room)

pub returns-in_err-rows-clause-writes : goal.returns-in_err-rows-clause-writes
returns-in_err-rows-clause-writes g c =
    let exit = err_from_is_err_and c.from_residual-in_err-rows.result c.from_residual-in_err-rows.ensures.1 in
    rw (exit.1, exit.2) (writes_none _ c.words.ensures.formed c.words.ensures.room)

pub returns-clause-terms : goal.returns-clause-terms
returns-clause-terms g c =
    let old = g.I.Interner.list c.args.pass.now in
    let new = g.I.Interner.list c.merged.new.pass in
    let rows = (g.T.RowSource.table c.args.table.now).rows in
    let ks = c.args.columns.now in
    let source = TermOfRows old rows in
    let from = picked_from old (length (g.T.RowSource.table c.args.table.now).columns) ks c.requires.columns source rows c.requires.rows.each (rows_itself old rows) in
    IfOk-weaker c.merged.result (λ out. RowsFrom new out.rows (TermOfRows old (map (picked_row ks) rows))) (λ out. RowsFrom new out.rows source)
    (λ out. rows_wider new (TermOfRows old (map (picked_row ks) rows)) source (from_rows old (map (picked_row ks) rows) source from) out.rows)
    (subst (λ l. IfOk c.merged.result (λ out. RowsFrom new out.rows (TermOfRows old l))) c.in_ok-rows.ensures c.merged.ensures.terms)
