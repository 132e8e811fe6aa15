use Rattle.std.{proofs.Common.{◌≡◌, ◌++◌, ◌∙◌, length, map, ap, sym, subst, arith}, specs.Prelude.{All, IfOk}, proofs.lemmas.List.Elements.All-append}
use Rattle.std.{proofs.lemmas.List.map-append, proofs.lemmas.Result.err_from_is_err_and}
use Rattle.ct_word.{specs.declared.values.CRow.CRow, specs.Value.same_cells, specs.Sublist.IsSublist, specs.Reading.term_at}
use Rattle.ct_query.specs.Database.{SameSet}
use Rattle.ct_operators.{specs.Tables.{IsRow, AreRows, value_of_rows, cells_of, firsts}, proofs.Firsts.part_of_merged, proofs.Selecting.value-append}
use Rattle.ct_condition.proofs.Writes.{writes_none, writes_within}
use Rattle.ct_operators.{proofs.Adding.more_repeat, specs.Merging.repeats, specs.Terms.{TermOfRows, RowsFrom}, proofs.insertion.insert.Goals.After-merged}
use Rattle.ct_operators.proofs.insertion.insert.Goals as goal

-- the rows of the table, and the further ones
listed : (g : _) (c : After-merged g) → c.copy_rows-2.new.to.items ≡ c.args.table.now.rows ++ c.args.rows.now
listed g c = c.in_ok-copy_rows-2.ensures ∙ ap (λ l. l ++ c.args.rows.now) (c.in_ok-copy_rows.ensures ∙ (λ i. c.new-all.ensures.items i ++ c.as_slice.ensures i))

pub merged-requires : goal.merged-requires
merged-requires g c =
    let old = g.I.Interner.list c.args.pass.now in
    let width = length c.args.table.now.columns in
    let rows = c.args.table.now.rows in
    let more = c.args.rows.now in
    let whole : c.copy_rows-2.new.to.items ≡ rows ++ more =
    c.in_ok-copy_rows-2.ensures ∙ ap (λ l. l ++ more) (c.in_ok-copy_rows.ensures ∙ (λ i. c.new-all.ensures.items i ++ c.as_slice.ensures i)) in
    record {
      rows = subst (λ n. All (IsRow old n) c.copy_rows-2.new.to.items) (ap (λ cs. length cs) (sym c.in_ok-columns.ensures))
          (subst (All (IsRow old width)) (sym whole) (All-append (IsRow old width) rows more c.requires.table.each c.requires.rows));
    }

pub returns-clause-rows : goal.returns-clause-rows
returns-clause-rows g c =
    subst (λ cs. IfOk c.merged.result (λ out. AreRows (g.I.Interner.list c.merged.new.pass) (length cs) out.rows)) c.in_ok-columns.ensures c.merged.ensures.rows

pub returns-clause-tuples : goal.returns-clause-tuples
returns-clause-tuples g c v =
    let old = g.I.Interner.list c.args.pass.now in
    let new = g.I.Interner.list c.merged.new.pass in
    let more = c.args.rows.now in
    let whole = listed g (goal.at.returns-clause-tuples g c).After-merged in
    subst (λ l. IfOk c.merged.result (λ out. SameSet (value_of_rows new v out.rows) l)) (ap (value_of_rows old v) whole ∙ value-append old v c.args.table.now.rows more) (c.merged.ensures.tuples v)

pub returns-clause-order : goal.returns-clause-order
returns-clause-order g c =
    let old = g.I.Interner.list c.args.pass.now in
    subst (λ l. IfOk c.merged.result (λ out. IsSublist (cells_of (g.I.Interner.list c.merged.new.pass) out.rows) (firsts same_cells l)))
    (ap (cells_of old) (listed g (goal.at.returns-clause-order g c).After-merged) ∙ map-append (λ (r : CRow). map (term_at old) r.cells) c.args.table.now.rows c.args.rows.now) c.merged.ensures.order

pub returns-clause-part : goal.returns-clause-part
returns-clause-part g c =
    let old = g.I.Interner.list c.args.pass.now in
    part_of_merged (g.I.Interner.list c.merged.new.pass) c.merged.result (cells_of old c.args.table.now.rows ++ cells_of old c.args.rows.now) (returns-clause-order g c)

pub returns-clause-writes : goal.returns-clause-writes
returns-clause-writes g c =
    let old = g.I.Interner.list c.args.pass.now in
    let few = more_repeat old c.args.table.now.rows c.args.rows.now c.requires.table.distinct in
    let all = ap (repeats old) (listed g (goal.at.returns-clause-writes g c).After-merged) in
    writes_within _ (omega (arith, few, all)) c.merged.ensures.writes

pub returns-in_err-columns-clause-writes : goal.returns-in_err-columns-clause-writes
returns-in_err-columns-clause-writes g c =
    let exit = err_from_is_err_and c.from_residual.result c.from_residual.ensures.1 in
    rw (exit.1, exit.2) (writes_none _ c.words.ensures.formed c.words.ensures.room)

pub returns-in_err-copy_rows-clause-writes : goal.returns-in_err-copy_rows-clause-writes
returns-in_err-copy_rows-clause-writes g c =
    let exit = err_from_is_err_and c.from_residual-in_err-copy_rows.result c.from_residual-in_err-copy_rows.ensures.1 in
    rw (exit.1, exit.2) (writes_none _ c.words.ensures.formed c.words.ensures.room)

pub returns-in_err-copy_rows-2-clause-writes : goal.returns-in_err-copy_rows-2-clause-writes
returns-in_err-copy_rows-2-clause-writes g c =
    let exit = err_from_is_err_and c.from_residual-in_err-copy_rows-2.result c.from_residual-in_err-copy_rows-2.ensures.1 in
    rw (exit.1, exit.2) (writes_none _ c.words.ensures.formed c.words.ensures.room)

pub returns-clause-terms : goal.returns-clause-terms
returns-clause-terms g c =
    let rows = c.args.table.now.rows in
    let more = c.args.rows.now in
    let whole = listed g (goal.at.returns-clause-terms g c).After-merged in
    subst (λ l. IfOk c.merged.result (λ out. RowsFrom (g.I.Interner.list c.merged.new.pass) out.rows (TermOfRows (g.I.Interner.list c.args.pass.now) l))) whole c.merged.ensures.terms
