use Rattle.std.{proofs.Common.{sym, subst, ◌∙◌, List}, specs.Prelude.Some}
use Rattle.ct_query.{specs.Views.action_of, specs.declared.action.Read.Read, specs.Reads.with_reads}
use Rattle.ct_transaction.{specs.Sessions.IsOpen, proofs.Opened.{open_acted, open_again}}
use Rattle.ct_transaction.proofs.extending.after_action.Goals as goal

pub returns-in-Err-clause-same : goal.returns-in-Err-clause-same
returns-in-Err-clause-same c = λ words k.
    let t = c.args.transaction in
    subst (λ (rs : List Read). IsOpen words (record { sight = t.sight; changes = t.changes; reads = rs })) (sym c.in-Err.ensures.same) k

pub returns-in-Ok-advance-clause-extended : goal.returns-in-Ok-advance-clause-extended
returns-in-Ok-advance-clause-extended c = λ words k p s.
    let t = c.args.transaction in
    let next = c.in-Ok-advance in
    subst (λ (rs : List Read). IsOpen words (record { sight = next.sight; changes = Some c.args.changes; reads = rs }))
    (sym (c.with_reads.ensures ∙ (λ i. with_reads (c.in-Ok.ensures.same i) (c.requires.reads i))))
    (open_acted words t k next.sight (next.ensures.sight words k.sight s) next.ensures.version (action_of c.args.action) c.args.changes next.ensures.actions p)

pub returns-in-Err-advance-clause-same : goal.returns-in-Err-advance-clause-same
returns-in-Err-advance-clause-same c = λ words k.
    let t = c.args.transaction in
    let same = c.in-Err-advance in
    subst (λ (rs : List Read). IsOpen words (record { sight = same.sight; changes = t.changes; reads = rs })) (sym (c.from_vec.ensures ∙ c.in-Ok.ensures.same))
    (open_again words t k same.sight (same.ensures.same words k.sight) same.ensures.version same.ensures.actions)
