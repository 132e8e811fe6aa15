use Rattle.std.{proofs.Common.{◌∷◌, length, ap, subst, arith, inl, inr}, specs.Prelude.{◌⊎◌}, proofs.lemmas.Result.err_from_is_err_and}
use Rattle.ct_condition.{specs.Terms.{TermsFrom, BelowSome}, proofs.Placed.on_ok, proofs.Writes.{writes_both, writes_within}}
use Rattle.ct_operators.{specs.Building.HoldsWhere, specs.Placing.tuple_of, specs.Judging.{passes, Beside, test_words}, specs.Terms.TermOfRow}
use Rattle.ct_operators.{proofs.Holding.holds_beside, proofs.Reaching.{from_beside, some_among, foremost, behind}, proofs.Tests.first_fewer}
use Rattle.ct_operators.proofs.judging.judged.Goals as goal

pub returns-clause-holds : goal.returns-clause-holds
returns-clause-holds g c =
    let old = g.I.Interner.list c.args.pass.now in
    let mid = g.I.Interner.list c.passing.new.pass in
    let row = c.args.row.now in
    holds_beside old mid (g.I.Interner.list c.and.new.pass) row.cond c.in_ok-place.place (λ v. passes old c.args.test v (tuple_of old row.cells v)) c.and.result c.passing.ensures.writes.longer c.requires.row.condition
    (subst (λ cs. HoldsWhere mid c.in_ok-place.place (λ v. passes old c.args.test v (tuple_of old cs v))) c.as_slice.ensures c.in_ok-place.ensures.holds) c.and.ensures.truth

pub returns-clause-terms : goal.returns-clause-terms
returns-clause-terms g c =
    let old = g.I.Interner.list c.args.pass.now in
    let mid = g.I.Interner.list c.passing.new.pass in
    let row = c.args.row.now in
    let met = c.in_ok-place.place in
    from_beside old mid (g.I.Interner.list c.and.new.pass) row.cond met (λ t. TermOfRow old row t ⊎ Beside old row.cells c.args.test t) c.and.result c.passing.ensures.writes.longer c.words.ensures.formed c.requires.row.condition
    (λ t h. inl (record { place = row.cond; among = foremost row.cond row.cells; below = h }))
    (λ t h. elim (subst (λ cs. TermsFrom mid met (λ t. BelowSome old cs t ⊎ Beside old cs c.args.test t)) c.as_slice.ensures c.in_ok-place.ensures.terms t h) [
      | inl b ↦ inl (some_among old row.cells (row.cond ∷ row.cells) t (behind row.cond row.cells) b)
      | inr y ↦ inr y
    ])
    c.and.ensures.terms

pub returns-clause-writes : goal.returns-clause-writes
returns-clause-writes g c =
    let same = ap (λ cs. test_words (g.I.Interner.list c.args.pass.now) (length cs) c.args.test) c.as_slice.ensures in
    writes_within _ (omega (arith, same)) (writes_both c.in_ok-place.ensures.writes c.and.ensures.writes)

pub returns-in_err-place-clause-writes : goal.returns-in_err-place-clause-writes
returns-in_err-place-clause-writes g c =
    let same = ap (λ cs. test_words (g.I.Interner.list c.args.pass.now) (length cs) c.args.test) c.as_slice.ensures in
    rw (err_from_is_err_and c.from_residual.result c.from_residual.ensures.1).1 (writes_within _ (omega (arith, same)) c.in_err-place.ensures.writes)

pub returns-clause-placed : goal.returns-clause-placed
returns-clause-placed g c =
    on_ok c.and.result (omega (arith, first_fewer (g.I.Interner.list c.passing.new.pass) (g.I.Interner.list c.and.new.pass) c.and.ensures.longer c.args.test, c.in_ok-place.ensures.placed))
