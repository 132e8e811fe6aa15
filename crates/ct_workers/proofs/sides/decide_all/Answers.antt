use Rattle.std.proofs.Common.{◌≡◌, ◌∙◌, ap, arith, length, map, sym}
use Rattle.ct_workers.proofs.Placed.{rows_done, written_back}
use Rattle.ct_workers.specs.declared.sides.Slot.{Slot}
use Rattle.ct_workers.proofs.sides.decide_all.Goals as goal

pub decisions_of-requires-clause-rows : goal.decisions_of-requires-clause-rows
decisions_of-requires-clause-rows g c =
    let slots = c.in_ok-slots.slots in
    let new = c.work_all.new.slots in
    let rows = c.in_ok-rows.rows in
    let count = c.work_all.ensures.count in
    let value = c.as_mut_slice.ensures.value in
    let back = written_back slots.len new slots.items (count ∙ ap length value) slots.ok.0 in
    rows_done c.args.words.now c.args.roots.now c.min-count.result rows.len new rows.items (ap (map (λ (s : Slot). s.row)) (sym back) ∙ c.in_ok-rows.ensures)
    (λ k d lt. c.work_all.ensures.each k d (omega (arith, lt, count))) (count ∙ ap length value ∙ sym slots.ok.0 ∙ c.in_ok-slots.ensures) (sym rows.ok.0)
