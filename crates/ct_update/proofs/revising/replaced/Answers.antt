use Rattle.std.{proofs.Common.{ℕ, ◌≡◌, ◌+◌, ◌<◌, ◌∷◌, [], length, get_or, sym, ◌∙◌, subst, arith}, specs.Prelude.{◌≢◌, All}}
use Rattle.std.proofs.lemmas.{List.get_or_default, List.Elements.{All-get_or, All-head, All-tail}}
use Rattle.ct_word.{specs.declared.values.CRow.CRow, proofs.Alike.text_decides}
use Rattle.ct_operators.specs.Tables.{IsRow}
use Rattle.ct_update.{specs.Updating.updated_places, proofs.Updates.halves_at, proofs.Replacing.{ReplacedSo, replaced_same, replaced_unchanged, replaced_other}}
use Rattle.ct_update.proofs.revising.replaced.Goals as goal

pub loop-nth-preserved-then-goes-eq-FALSE_PLACE : goal.loop-nth-preserved-then-goes-eq-FALSE_PLACE
loop-nth-preserved-then-goes-eq-FALSE_PLACE g c =
    let rows = (g.T.RowSource.table c.args.table.now).rows in
    let conds = c.args.conds.now in
    let i = c.loop-nth.nth in
    let r = c.row-row.result.now in
    let b = get_or conds i (0, 0) in
    let lt : i < length rows = omega (arith, c.loop-nth-test.true, c.len-nth-end.ensures) in
    replaced_same c.args.words.now c.requires.formed (length (g.T.RowSource.table c.args.table.now).columns) c.args.sets.now i rows conds c.loop-nth.edits.items c.loop-nth.invariant c.requires.long lt r c.row-row.ensures b
    (get_or_default conds i (0, 0) b (omega (arith, lt, c.requires.long))) (subst (λ (x : CRow). x.cond ≢ 1) (sym c.row-row.ensures) (All-get_or (λ (x : CRow). x.cond ≢ 1) rows i r lt c.requires.rows.possible)) c.if-stays-row.true
    c.if-goes-eq-FALSE_PLACE.true

pub loop-nth-preserved-then-eq : goal.loop-nth-preserved-then-eq
loop-nth-preserved-then-eq g c =
    let words = c.args.words.now in
    let width = length (g.T.RowSource.table c.args.table.now).columns in
    let rows = (g.T.RowSource.table c.args.table.now).rows in
    let sets = c.args.sets.now in
    let conds = c.args.conds.now in
    let i = c.loop-nth.nth in
    let r = c.row-row.result.now in
    let b = get_or conds i (0, 0) in
    let lt : i < length rows = omega (arith, c.loop-nth-test.true, c.len-nth-end.ensures) in
    let alike = (text_decides c.as_slice.result.now c.as_slice-then-goes-row.result.now).0 (sym c.eq.ensures ∙ c.if-eq.true) in
    replaced_unchanged words c.requires.formed width sets i rows conds c.loop-nth.edits.items c.loop-nth.invariant c.requires.long lt r c.row-row.ensures b
    (get_or_default conds i (0, 0) b (omega (arith, lt, c.requires.long)))
    (subst (λ (x : CRow). x.cond ≢ 1) (sym c.row-row.ensures) (All-get_or (λ (x : CRow). x.cond ≢ 1) rows i r lt c.requires.rows.possible)) c.if-stays-ne-FALSE_PLACE.false c.if-goes-row.true
    (sym c.in_ok-cells.ensures ∙ sym c.as_slice.ensures ∙ alike ∙ c.as_slice-then-goes-row.ensures)

pub loop-nth-preserved : goal.loop-nth-preserved
loop-nth-preserved g c =
    let words = c.args.words.now in
    let width = length (g.T.RowSource.table c.args.table.now).columns in
    let rows = (g.T.RowSource.table c.args.table.now).rows in
    let sets = c.args.sets.now in
    let conds = c.args.conds.now in
    let i = c.loop-nth.nth in
    let r = c.row-row.result.now in
    let b = get_or conds i (0, 0) in
    let edits = c.loop-nth.edits.items in
    let cells = c.in_ok-cells.cells in
    let lt : i < length rows = omega (arith, c.loop-nth-test.true, c.len-nth-end.ensures) in
    let it : b ≡ get_or conds i b = get_or_default conds i (0, 0) b (omega (arith, lt, c.requires.long)) in
    let one : CRow = record { cells = r.cells; cond = b.0 } in
    let other : CRow = record { cells = updated_places words sets r.cells; cond = b.1 } in
    let both = halves_at (IsRow words width) words sets rows conds c.requires.long i lt r b c.row-row.ensures it c.requires.halves in
    let new = All-head (IsRow words width) other [] (All-tail (IsRow words width) one (other ∷ []) both) in
    subst (ReplacedSo words width sets (i + 1) rows conds) (sym c.in_ok-push.ensures.items)
    (replaced_other words c.requires.formed width sets i rows conds edits c.loop-nth.invariant c.requires.long lt r c.row-row.ensures b it c.if-stays-ne-FALSE_PLACE.false c.if-goes-eq-FALSE_PLACE-2.false cells c.in_ok-cells.ensures
    (subst (λ cs. IsRow words width (record { cells = cs; cond = b.1 })) (sym c.in_ok-cells.ensures) new) c.requires.rows.each (c.is_nowhere.ensures c.if-not-is_nowhere.false)
    (subst (All (λ (e : ℕ × CRow). e.1.cells ≢ cells)) c.as_slice-else-not-is_nowhere.ensures.value (c.is_in_none.ensures c.if-not-is_in_none.false)))
