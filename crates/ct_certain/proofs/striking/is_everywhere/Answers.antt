use Rattle.std.{proofs.Common.{ap, sym, ◌∙◌, take}, proofs.lemmas.{Bool.and_from, List.take_all, List.Folds.{list_all_at, list_all_more}}}
use Rattle.ct_query.specs.Database.{has_tuple}
use Rattle.ct_certain.{specs.Missing.is_in_each, proofs.Candidates.contained}
use Rattle.ct_certain.proofs.striking.is_everywhere.Goals as goal

pub returns-then-not-contains : goal.returns-then-not-contains
returns-then-not-contains c =
    let tuple = c.args.tuple.now in
    let seen = c.seen-item.result in
    sym (list_all_at (λ s. has_tuple s.tuples.keys tuple) c.args.pool.now c.loop-seen.seen-index seen c.loop-seen-test.true
    (ap (λ s. has_tuple s.tuples.keys tuple) (sym c.seen-item.is) ∙ sym (sym c.if-not-contains.true ∙ c.contains.ensures ∙ contained seen.tuples.keys tuple)))

pub loop-seen-preserved : goal.loop-seen-preserved
loop-seen-preserved c =
    let tuple = c.args.tuple.now in
    let seen = c.seen-item.result in
    let pool = c.args.pool.now in
    let i = c.loop-seen.seen-index in
    list_all_more (λ s. has_tuple s.tuples.keys tuple) pool i seen c.loop-seen-test.true
    ∙ and_from (is_in_each (take i pool) tuple) _ c.loop-seen.invariant (ap (λ s. has_tuple s.tuples.keys tuple) (sym c.seen-item.is) ∙ sym (sym c.if-not-contains.false ∙ c.contains.ensures ∙ contained seen.tuples.keys tuple))

pub returns : goal.returns
returns c = sym (ap (λ ss. is_in_each ss c.args.tuple.now) (sym (take_all c.loop-seen.seen-index c.args.pool.now c.loop-seen-test.false)) ∙ c.loop-seen.invariant)
