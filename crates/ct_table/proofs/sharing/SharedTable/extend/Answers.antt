use Rattle.std.{proofs.Common.{◌≡◌, ap, sym, subst, ◌∙◌}, specs.Prelude.OnSome}
use Rattle.ct_operators.{specs.declared.table.CTable.CTable, specs.Merging.rows_of}
use Rattle.ct_table.{specs.Growing.{rows_after, grown, table_of}, specs.Shared.body_of, proofs.Putting.entries_back}
use Rattle.ct_table.proofs.sharing.SharedTable.extend.Goals as goal

pub returns-clause-rows : goal.returns-clause-rows
returns-clause-rows c =
    let es = c.in-Keyed.front.entries in
    let puts = c.args.puts.now in
    let was : c.args.self.now ≡ table_of c.in-Keyed.front = sym c.self.view_is ∙ ap body_of c.in-Keyed.is in
    ap rows_of (subst (λ o. OnSome o (c.extend.new.self.entries ≡ grown es puts)) c.in-Some.is c.in_ok-before.ensures.entries)
    ∙ sym (ap (λ (t : CTable). rows_after t.rows puts) was ∙ ap (λ l. rows_of (grown l puts)) (entries_back es))
