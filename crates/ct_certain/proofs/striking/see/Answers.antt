use Rattle.std.{proofs.Common.{sym, subst, ap, ◌∙◌}, specs.Prelude.All, proofs.lemmas.List.Elements.All-push}
use Rattle.ct_query.specs.Database.{has_tuple}
use Rattle.ct_operators.specs.Tables.{value_of_rows}
use Rattle.ct_certain.{specs.Missing.IsSeen, proofs.Candidates.has_first}
use Rattle.ct_certain.proofs.striking.see.Goals as goal

pub returns : goal.returns
returns c =
    let words = c.args.words.now in
    let rows = c.args.rows.now in
    let world = c.args.world.now in
    let holds = sym (c.holds.ensures words world c.in_ok-worths.ensures c.requires.global) ∙ c.if-not-holds.false in
    let seen : IsSeen words c.args.global rows (record { tuples = c.in_ok-tuples.tuples }) = record { world = world; holds = holds; tuples = λ t. ap (λ ts. has_tuple ts t) c.in_ok-tuples.ensures ∙ has_first (value_of_rows words world rows) t } in
    subst (All (IsSeen words c.args.global rows)) (sym c.in_ok-push.ensures.items) (All-push (IsSeen words c.args.global rows) c.args.pool.now.items _ c.requires.pool seen)
