use Rattle.std.proofs.Common.{ap, sym, subst, ◌∙◌, List}
use Rattle.ct_query.{specs.declared.action.Read.Read, specs.Reads.with_reads}
use Rattle.ct_transaction.{specs.Sessions.IsOpen, proofs.Opened.open_read}
use Rattle.ct_transaction.proofs.extending.after_query.Goals as goal

pub returns-in-Ok-clause-extended : goal.returns-in-Ok-clause-extended
returns-in-Ok-clause-extended c = λ words k.
    let t = c.args.transaction in
    subst (λ (rs : List Read). IsOpen words (record { sight = t.sight; changes = t.changes; reads = rs })) (sym (c.with_reads.ensures ∙ ap (λ (l : List Read). with_reads l c.args.more) c.in-Ok.ensures.same))
    (open_read words t k c.args.more)

pub returns-in-Err-clause-same : goal.returns-in-Err-clause-same
returns-in-Err-clause-same c = λ words k.
    let t = c.args.transaction in
    subst (λ (rs : List Read). IsOpen words (record { sight = t.sight; changes = t.changes; reads = rs })) (sym c.in-Err.ensures.same) k
