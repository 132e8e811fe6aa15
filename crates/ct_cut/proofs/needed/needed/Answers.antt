use Rattle.std.{proofs.Common.{◌-◌, ◌<◌, [], length, set, true, false, ap, ◌∙◌, sym, subst, arith}, proofs.lemmas.List.{get_or_read, get_or-map, length-map}}
use Rattle.ct_cut.{specs.Marks.with_marks, specs.Cut.{entry_hints, all_hints, AreNeeded}, proofs.Walk.{walk_starts, walk_more, walk_skips}}
use Rattle.ct_cut.proofs.needed.needed.Goals as goal

pub loop-k-init : goal.loop-k-init
loop-k-init c =
    let es = c.args.entries.now in
    let n = length es in
    subst (λ ms. AreNeeded (all_hints es) n (set ms (n - 1) true)) (sym c.in_ok-marks.ensures)
    (walk_starts (all_hints es) n (n - 1) (sym (length-map es entry_hints)) (omega (arith, c.requires.some)))

pub loop-k-preserved-then-index : goal.loop-k-preserved-then-index
loop-k-preserved-then-index c =
    let es = c.args.entries.now in
    let ms = c.loop-k.marks.items in
    let k = c.loop-k.k - 1 in
    let lt : k < length es = omega (arith, c.loop-k-test.true, c.loop-k.auto.k) in
    let within : k < length ms = omega (arith, c.loop-k.invariant.long, length-map es entry_hints, lt) in
    let hints = c.hints.ensures ∙ ap entry_hints c.index-entries-k.is ∙ sym (get_or-map entry_hints es k c.index-entries-k.result [] lt) in
    subst (AreNeeded (all_hints es) k) (sym (c.mark_hints.ensures ∙ ap (with_marks ms) hints))
    (walk_more (all_hints es) c.requires.earlier k c.loop-k.k (omega (arith, c.loop-k-test.true)) ms c.loop-k.invariant
    (sym (get_or_read ms k c.index.result.now within c.index.ensures false) ∙ c.if-index.true))

pub loop-k-preserved : goal.loop-k-preserved
loop-k-preserved c =
    let es = c.args.entries.now in
    let ms = c.loop-k.marks.items in
    let k = c.loop-k.k - 1 in
    let within : k < length ms = omega (arith, c.loop-k.invariant.long, length-map es entry_hints, c.loop-k-test.true, c.loop-k.auto.k) in
    walk_skips (all_hints es) c.requires.earlier k c.loop-k.k (omega (arith, c.loop-k-test.true)) ms c.loop-k.invariant
    (sym (get_or_read ms k c.index.result.now within c.index.ensures false) ∙ c.if-index.false)
