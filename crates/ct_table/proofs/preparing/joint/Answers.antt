use Rattle.std.{proofs.Common.{ℕ, length, sym, ◌∙◌}, specs.Prelude.{◌≢◌}}
use Rattle.ct_condition.{specs.Truth.{HasTruth, or_at}, specs.Terms.{TermsFrom, BelowEither}}
use Rattle.ct_table.{specs.Growing.{put_each, Joins, with_first}, proofs.Joining.if_ok_all}
use Rattle.ct_operators.proofs.Merges.{found_condition}
use Rattle.ct_table.proofs.preparing.joint.Goals as goal

pub joined-requires-clause-present : goal.joined-requires-clause-present
joined-requires-clause-present g c =
    let row = c.args.row.now in
    found_condition (g.I.Interner.list c.args.pass.now) (length row.cells) row.cells c.in-Some.first (put_each c.args.stored.now.entries c.args.pending.now.entries) c.requires.rows (sym c.present.ensures ∙ c.in-Some.is)

pub returns-in-Some-clause-joins : goal.returns-in-Some-clause-joins
returns-in-Some-clause-joins g c =
    let old = g.I.Interner.list c.args.pass.now in
    let new = g.I.Interner.list c.joined.new.pass in
    let r = c.args.row.now in
    let first = c.in-Some.first in
    if_ok_all (λ (p : ℕ). HasTruth new p (or_at old first r.cond)) (λ p. TermsFrom new p (BelowEither old first r.cond)) (λ p. first ≢ 1 → p ≢ 1)
    (Joins old new (put_each c.args.stored.now.entries c.args.pending.now.entries) r) c.joined.result c.joined.ensures.truth c.joined.ensures.terms c.joined.ensures.possible
    (λ p. with_first first (sym c.present.ensures ∙ c.in-Some.is))
