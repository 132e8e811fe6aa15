use Rattle.std.{proofs.Common.{subst, inl, inr}, specs.Prelude.{◌⊎◌}, proofs.lemmas.Result.IfOk-weaker}
use Rattle.ct_condition.specs.Terms.{TermsFrom, BelowEither}
use Rattle.ct_operators.{specs.Terms.IsPlaced, specs.Placing.IsCellFor, proofs.Reaching.from_two}
use Rattle.ct_word.specs.declared.values.Term.{Term}
use Rattle.ct_operators.proofs.placing.equal_on.Goals as goal

pub returns-clause-terms : goal.returns-clause-terms
returns-clause-terms g c =
    let old = g.I.Interner.list c.args.pass.now in
    let new = g.I.Interner.list c.eq.new.pass in
    let cells = c.args.cells.now in
    let left : IsCellFor old cells c.args.s c.cell_for-s.result = subst (λ ws. IsCellFor ws cells c.args.s c.cell_for-s.result) c.words.ensures.words c.cell_for-s.ensures in
    let right : IsCellFor old cells c.args.t c.cell_for-t.result = subst (λ ws. IsCellFor ws cells c.args.t c.cell_for-t.result) c.words-2.ensures.words c.cell_for-t.ensures in
    let source : Term → Type 0 = λ u. IsPlaced old c.args.s cells u ⊎ IsPlaced old c.args.t cells u in
    IfOk-weaker c.eq.result (λ place. TermsFrom new place (BelowEither old c.cell_for-s.result c.cell_for-t.result)) (λ place. TermsFrom new place source)
    (λ place. from_two old new c.cell_for-s.result c.cell_for-t.result place source (λ u h. inl (left.from u h)) (λ u h. inr (right.from u h)))
    c.eq.ensures.terms
