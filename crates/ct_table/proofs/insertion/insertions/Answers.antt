use Rattle.std.{proofs.Common.{length, ap, sym, subst, ◌∙◌}, specs.Prelude.IfOk}
use Rattle.ct_operators.{specs.declared.table.CTable.CTable, specs.Tables.AreRows, specs.Merging.rows_of}
use Rattle.ct_table.{specs.Growing.AreInserted, proofs.Joining.rows_apart, proofs.Putting.rows_back, proofs.Shared.of_table}
use Rattle.ct_table.proofs.insertion.insertions.Goals as goal

pub stored-requires : goal.stored-requires
stored-requires g c = record { apart = rows_apart (g.I.Interner.list c.args.pass.now) c.args.table.now.rows c.requires.table.distinct }

pub returns-in_err-stored-in-None-clause-apart : goal.returns-in_err-stored-in-None-clause-apart
returns-in_err-stored-in-None-clause-apart g c = rows_apart (g.I.Interner.list c.args.pass.now) c.args.table.now.rows c.requires.table.distinct

pub prepared-requires-in-None-clause-table : goal.prepared-requires-in-None-clause-table
prepared-requires-in-None-clause-table g c =
    let t = c.args.table.now in
    let old = g.I.Interner.list c.args.pass.now in
    let columns = c.in_ok-stored-in-None.ensures.columns in
    let rows = ap rows_of c.in_ok-stored-in-None.ensures.entries ∙ rows_back t.rows in
    subst (λ cs. AreRows old (length cs) (rows_of c.in_ok-stored-in-None.stored.entries)) (sym columns) (subst (AreRows old (length t.columns)) (sym rows) c.requires.table)

pub returns-in-Some-clause-apart : goal.returns-in-Some-clause-apart
returns-in-Some-clause-apart g c = rows_apart (g.I.Interner.list c.args.pass.now) c.args.table.now.rows c.requires.table.distinct

pub returns-in-Some-clause-inserted : goal.returns-in-Some-clause-inserted
returns-in-Some-clause-inserted g c =
    let new = g.I.Interner.list c.prepared.new.pass in
    let s = c.in-Some.stored.now in
    of_table s.columns s.entries c.args.table.now (ap (λ (x : CTable). x.columns) c.in-Some.ensures) (ap (λ (x : CTable). x.rows) c.in-Some.ensures)
    (λ cs rs after. IfOk c.prepared.result (λ out. AreInserted (g.I.Interner.list c.args.pass.now) new (length cs) rs c.args.rows.now (after out.items))) c.prepared.ensures.inserted

pub returns-in_ok-stored-in-None-clause-apart : goal.returns-in_ok-stored-in-None-clause-apart
returns-in_ok-stored-in-None-clause-apart g c = rows_apart (g.I.Interner.list c.args.pass.now) c.args.table.now.rows c.requires.table.distinct

pub returns-in_ok-stored-in-None-clause-inserted : goal.returns-in_ok-stored-in-None-clause-inserted
returns-in_ok-stored-in-None-clause-inserted g c =
    let new = g.I.Interner.list c.prepared-in-None.new.pass in
    let t = c.args.table.now in
    let s = c.in_ok-stored-in-None.stored in
    of_table s.columns s.entries t c.in_ok-stored-in-None.ensures.columns (ap rows_of c.in_ok-stored-in-None.ensures.entries ∙ rows_back t.rows)
    (λ cs rs after. IfOk c.prepared-in-None.result (λ out. AreInserted (g.I.Interner.list c.args.pass.now) new (length cs) rs c.args.rows.now (after out.items))) c.prepared-in-None.ensures.inserted
