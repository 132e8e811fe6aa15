use Rattle.std.{proofs.Common.{◌≡◌, ◌++◌, ◌∙◌, length, map, ap, sym, subst, refl, arith}, specs.Prelude.{All, IfOk}, proofs.lemmas.List.Elements.All-append}
use Rattle.std.{proofs.lemmas.List.map-append, proofs.lemmas.Result.err_from_is_err_and}
use Rattle.ct_word.{specs.declared.values.CRow.CRow, specs.Value.same_cells, specs.Sublist.IsSublist, specs.Reading.term_at}
use Rattle.ct_query.specs.Database.{SameSet}
use Rattle.ct_operators.{specs.Tables.{IsRow, AreRows, value_of_rows, cells_of, firsts}, proofs.Firsts.part_of_merged, proofs.Selecting.value-append}
use Rattle.ct_condition.proofs.Writes.{writes_none, writes_within}
use Rattle.ct_operators.{proofs.Adding.more_repeat, proofs.Tests.each_as, specs.Merging.repeats, specs.Terms.{TermOfRows, RowsFrom}, proofs.unions.union.Goals.After-merged}
use Rattle.ct_operators.proofs.unions.union.Goals as goal

-- the left rows, and the right ones
listed : (g : _) (c : After-merged g) → c.copy_all-2.new.to.items ≡ (g.L.RowSource.table c.args.left.now).rows ++ (g.R.RowSource.table c.args.right.now).rows
listed g c = c.in_ok-copy_all-2.ensures ∙ ap (λ l. l ++ (g.R.RowSource.table c.args.right.now).rows) (c.in_ok-copy_all.ensures ∙ ap (λ l. l ++ (g.L.RowSource.table c.args.left.now).rows) c.new-all.ensures.items)

pub merged-requires : goal.merged-requires
merged-requires g c =
    let old = g.I.Interner.list c.args.pass.now in
    let left = g.L.RowSource.table c.args.left.now in
    let right = g.R.RowSource.table c.args.right.now in
    let whole : c.copy_all-2.new.to.items ≡ left.rows ++ right.rows =
    c.in_ok-copy_all-2.ensures ∙ ap (λ l. l ++ right.rows) (c.in_ok-copy_all.ensures ∙ ap (λ l. l ++ left.rows) c.new-all.ensures.items) in
    let more : All (IsRow old (length left.columns)) right.rows = each_as old _ _ right.rows right.rows refl c.requires.columns c.requires.right.each in
    let all = All-append (IsRow old (length left.columns)) left.rows right.rows c.requires.left.each more in
    record { rows = each_as old _ _ (left.rows ++ right.rows) _ whole (ap (λ cs. length cs) (sym (c.in_ok-columns.ensures ∙ c.columns.ensures))) all }

pub returns-clause-rows : goal.returns-clause-rows
returns-clause-rows g c =
    subst (λ cs. IfOk c.merged.result (λ out. AreRows (g.I.Interner.list c.merged.new.pass) (length cs) out.rows)) (c.in_ok-columns.ensures ∙ c.columns.ensures) c.merged.ensures.rows

pub returns-clause-tuples : goal.returns-clause-tuples
returns-clause-tuples g c v =
    let old = g.I.Interner.list c.args.pass.now in
    let new = g.I.Interner.list c.merged.new.pass in
    let more = (g.R.RowSource.table c.args.right.now).rows in
    let whole = listed g (goal.at.returns-clause-tuples g c).After-merged in
    subst (λ l. IfOk c.merged.result (λ out. SameSet (value_of_rows new v out.rows) l)) (ap (value_of_rows old v) whole ∙ value-append old v (g.L.RowSource.table c.args.left.now).rows more) (c.merged.ensures.tuples v)

pub returns-clause-order : goal.returns-clause-order
returns-clause-order g c =
    let old = g.I.Interner.list c.args.pass.now in
    subst (λ l. IfOk c.merged.result (λ out. IsSublist (cells_of (g.I.Interner.list c.merged.new.pass) out.rows) (firsts same_cells l)))
    (ap (cells_of old) (listed g (goal.at.returns-clause-order g c).After-merged) ∙ map-append (λ (r : CRow). map (term_at old) r.cells) (g.L.RowSource.table c.args.left.now).rows (g.R.RowSource.table c.args.right.now).rows) c.merged.ensures.order

pub returns-clause-part : goal.returns-clause-part
returns-clause-part g c =
    let old = g.I.Interner.list c.args.pass.now in
    part_of_merged (g.I.Interner.list c.merged.new.pass) c.merged.result (cells_of old (g.L.RowSource.table c.args.left.now).rows ++ cells_of old (g.R.RowSource.table c.args.right.now).rows) (returns-clause-order g c)

pub returns-clause-writes : goal.returns-clause-writes
returns-clause-writes g c =
    let old = g.I.Interner.list c.args.pass.now in
    let few = more_repeat old (g.L.RowSource.table c.args.left.now).rows (g.R.RowSource.table c.args.right.now).rows c.requires.left.distinct in
    let all = ap (repeats old) (listed g (goal.at.returns-clause-writes g c).After-merged) in
    writes_within _ (omega (arith, few, all)) c.merged.ensures.writes

pub returns-in_err-columns-clause-writes : goal.returns-in_err-columns-clause-writes
returns-in_err-columns-clause-writes g c =
    let exit = err_from_is_err_and c.from_residual.result c.from_residual.ensures.1 in
    rw (exit.1, exit.2) (writes_none _ c.words.ensures.formed c.words.ensures.room)

pub returns-in_err-copy_all-clause-writes : goal.returns-in_err-copy_all-clause-writes
returns-in_err-copy_all-clause-writes g c =
    let exit = err_from_is_err_and c.from_residual-in_err-copy_all.result c.from_residual-in_err-copy_all.ensures.1 in
    rw (exit.1, exit.2) (writes_none _ c.words.ensures.formed c.words.ensures.room)

pub returns-in_err-copy_all-2-clause-writes : goal.returns-in_err-copy_all-2-clause-writes
returns-in_err-copy_all-2-clause-writes g c =
    let exit = err_from_is_err_and c.from_residual-in_err-copy_all-2.result c.from_residual-in_err-copy_all-2.ensures.1 in
    rw (exit.1, exit.2) (writes_none _ c.words.ensures.formed c.words.ensures.room)

pub returns-clause-terms : goal.returns-clause-terms
returns-clause-terms g c =
    let rows = (g.L.RowSource.table c.args.left.now).rows in
    let more = (g.R.RowSource.table c.args.right.now).rows in
    let whole = listed g (goal.at.returns-clause-terms g c).After-merged in
    subst (λ l. IfOk c.merged.result (λ out. RowsFrom (g.I.Interner.list c.merged.new.pass) out.rows (TermOfRows (g.I.Interner.list c.args.pass.now) l))) whole c.merged.ensures.terms
