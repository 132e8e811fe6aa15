use Rattle.std.{proofs.Common.{◌≡◌, ap, sym, ◌∙◌}, specs.Prelude.{Result, Ok, Err, IfOk, MatchResult}, proofs.lemmas.Result.IfOk-weaker}
use Rattle.ct_operators.specs.declared.table.CTable.{CTable}
use Rattle.ct_table.{specs.Growing.{Keyed, entries_of}, proofs.Putting.entries_back}
use Rattle.ct_table.proofs.sharing.SharedTable.stored.Goals as goal

where_ok : {T E : Type 0} (r : Result T E) (P : T → Type 0) (Q : E → Type 0) → MatchResult r P Q → IfOk r P
where_ok (Ok x) P Q m = m
where_ok (Err e) P Q m = tt

pub returns-in-Some-clause-entries : goal.returns-in-Some-clause-entries
returns-in-Some-clause-entries c =
    IfOk-weaker c.clone.result _ (λ s. s.entries ≡ entries_of c.args.self.now.rows)
    (λ s e. ap (λ (k : Keyed). k.entries) e ∙ sym (entries_back c.in-Some.stored.now.entries) ∙ ap (λ (t : CTable). entries_of t.rows) c.in-Some.ensures)
    (where_ok c.clone.result _ _ c.clone.ensures.cases)
