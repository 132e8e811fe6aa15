use Rattle.std.{proofs.Common.{◌<◌, ◌∙◌, ◌++◌, ◌∷◌, [], length, take, ap, sym, subst, arith}, specs.Prelude.{◌≢◌, All}}
use Rattle.std.proofs.lemmas.{Bool.false≢true, List.{take_more, take_all}, List.Elements.All-push}
use Rattle.ct_word.{specs.declared.values.CRow.CRow, proofs.Alike.text_decides}
use Rattle.ct_update.proofs.revising.is_nowhere.Goals as goal

pub loop-nth-preserved : goal.loop-nth-preserved
loop-nth-preserved g c =
    let rows = (g.T.RowSource.table c.args.table.now).rows in
    let i = c.loop-nth.nth in
    let r = c.row.result.now in
    let lt : i < length rows = omega (arith, c.loop-nth-test.true, c.len-nth-end.ensures) in
    subst (All (λ (x : CRow). x.cells ≢ c.args.cells.now)) (ap (λ x. take i rows ++ x ∷ []) c.row.ensures ∙ sym (take_more rows i r lt))
    (All-push (λ (x : CRow). x.cells ≢ c.args.cells.now) (take i rows) r c.loop-nth.invariant
    (λ e. false≢true (sym c.if-eq.false ∙ c.eq.ensures ∙ (text_decides c.as_slice.result.now c.as_slice-in-loop-nth.result.now).1 (c.as_slice.ensures ∙ e ∙ sym c.as_slice-in-loop-nth.ensures))))

pub returns : goal.returns
returns g c is =
    let rows = (g.T.RowSource.table c.args.table.now).rows in
    subst (All (λ (x : CRow). x.cells ≢ c.args.cells.now)) (take_all c.loop-nth.nth rows (omega (arith, c.loop-nth-test.false, c.len-nth-end.ensures))) c.loop-nth.invariant
