use Rattle.std.{proofs.Common.{ℕ, ◌∙◌, ◌++◌, ◌∷◌, [], take, ap, sym, subst, arith}, specs.Prelude.{◌≢◌, All}}
use Rattle.std.proofs.lemmas.{Bool.false≢true, List.{take_more, take_all}, List.Elements.All-push}
use Rattle.ct_word.{specs.declared.values.CRow.CRow, proofs.Alike.text_decides}
use Rattle.ct_update.proofs.revising.is_in_none.Goals as goal

pub loop-nth-preserved : goal.loop-nth-preserved
loop-nth-preserved c =
    let rows = c.args.rows.now in
    let i = c.loop-nth.nth in
    let e = c.index-rows-nth.result in
    subst (All (λ (x : ℕ × CRow). x.1.cells ≢ c.args.cells.now)) (ap (λ x. take i rows ++ x ∷ []) c.index-rows-nth.is ∙ sym (take_more rows i e c.loop-nth-test.true))
    (All-push (λ (x : ℕ × CRow). x.1.cells ≢ c.args.cells.now) (take i rows) e c.loop-nth.invariant
    (λ same. false≢true (sym c.if-eq.false ∙ c.eq.ensures ∙ (text_decides c.as_slice.result.now c.as_slice-in-loop-nth.result.now).1 (c.as_slice.ensures ∙ ap (λ (x : ℕ × CRow). x.1.cells) (sym c.index-rows-nth.is) ∙ same ∙ sym c.as_slice-in-loop-nth.ensures))))

pub returns : goal.returns
returns c is = subst (All (λ (x : ℕ × CRow). x.1.cells ≢ c.args.cells.now)) (take_all c.loop-nth.nth c.args.rows.now (omega (arith, c.loop-nth-test.false))) c.loop-nth.invariant
