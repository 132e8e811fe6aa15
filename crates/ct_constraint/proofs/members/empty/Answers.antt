use Rattle.std.{proofs.Common.{◌≤◌, ◌+◌, length, sym, subst, refl, arith}, specs.Option.IsSome, proofs.lemmas.Result.{IfOk-weaker, err_from_is_err_and}}
use Rattle.ct_condition.{specs.Truth.{HasTruth, not_at}, specs.Terms.TermsFrom, specs.Folding.folded_not, proofs.Writes.writes_within}
use Rattle.ct_word.specs.Stands.{TermBelow}
use Rattle.ct_operators.{specs.Terms.TermOfRows, proofs.Holding.holds_not, proofs.Adding.pairs_and_one}
use Rattle.ct_constraint.proofs.members.empty.Goals as goal

pub not-requires : goal.not-requires
not-requires g c = record { condition = c.in_ok-any.ensures.holds.class }

pub returns-clause-holds : goal.returns-clause-holds
returns-clause-holds g c =
    let mid = g.I.Interner.list c.some.new.pass in
    let new = g.I.Interner.list c.not.new.pass in
    let any = c.in_ok-any.any in
    IfOk-weaker c.not.result (λ p. HasTruth new p (not_at mid any)) _ (λ p h. holds_not mid new any p _ c.in_ok-any.ensures.holds h) c.not.ensures.truth

pub returns-clause-terms : goal.returns-clause-terms
returns-clause-terms g c =
    let old = g.I.Interner.list c.args.pass.now in
    let mid = g.I.Interner.list c.some.new.pass in
    let new = g.I.Interner.list c.not.new.pass in
    IfOk-weaker c.not.result (λ p. TermsFrom new p (TermBelow mid c.in_ok-any.any)) (λ p. TermsFrom new p (TermOfRows old c.args.table.now.rows))
    (λ p from t h. c.in_ok-any.ensures.terms t (from t h)) c.not.ensures.terms

pub returns-clause-writes : goal.returns-clause-writes
returns-clause-writes g c =
    let mid = g.I.Interner.list c.some.new.pass in
    let most : g.I.Interner.made c.some.new.pass + 0 ≤ g.I.Interner.made c.args.pass.now + length c.args.table.now.rows = c.in_ok-any.ensures.writes.made in
    pairs_and_one c.not.result (folded_not mid c.in_ok-any.any) _ (length c.args.table.now.rows) c.in_ok-any.ensures.writes (omega arith) (omega (arith, most)) c.not.ensures.writes
    (λ z. subst (λ x. IsSome (folded_not mid x)) (sym (c.in_ok-any.ensures.none z)) refl) c.not.ensures.unmade c.not.ensures.folds

pub returns-in_err-any-clause-writes : goal.returns-in_err-any-clause-writes
returns-in_err-any-clause-writes g c =
    rw (err_from_is_err_and c.from_residual.result c.from_residual.ensures.1).1 (writes_within _ (omega arith) c.in_err-any.ensures.writes)
