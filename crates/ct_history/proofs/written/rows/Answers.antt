use Rattle.std.{proofs.Common.{◌∙◌, ◌++◌, ap, map, sym, subst}, specs.Prelude.{All, reverse}}
use Rattle.ct_word.specs.Reading.{plain_crow}
use Rattle.ct_history.{specs.Rows.IsRowOf, proofs.ItemLists.{no_row, last_row, one_before, all_before}}
use Rattle.ct_history.proofs.written.rows.Goals as goal

pub row-requires-clause-place : goal.row-requires-clause-place
row-requires-clause-place c =
    (last_row c.args.words.now c.loop-alloc.rest c.word_at-word.result c.word_at-word.ensures c.loop-alloc.invariant.list (sym c.is_longer.ensures ∙ c.if-not-is_longer.false)).2

pub loop-alloc-preserved : goal.loop-alloc-preserved
loop-alloc-preserved c =
    let words = c.args.words.now in
    let word = c.word_at-word.result in
    let says = last_row words c.loop-alloc.rest word c.word_at-word.ensures c.loop-alloc.invariant.list (sym c.is_longer.ensures ∙ c.if-not-is_longer.false) in
    rw c.in_ok-push.ensures.items
    record {
      list = says.1;
      same = one_before (plain_crow words) _ _ _ c.loop-alloc.rows.items c.in_ok-next.next _ c.loop-alloc.invariant.same says.0 c.in_ok-next.ensures.same;
      placed = all_before (IsRowOf words) c.loop-alloc.rows.items c.in_ok-next.next c.loop-alloc.invariant.placed c.in_ok-next.ensures.placed;
    }

pub returns-clause-same : goal.returns-clause-same
returns-clause-same c =
    let words = c.args.words.now in
    let word = c.word_at-word.result in
    let none = no_row words c.loop-alloc.rest word c.word_at-word.ensures c.loop-alloc.invariant.list (sym c.is_longer.ensures ∙ c.if-not-is_longer.true) in
    ap (map (plain_crow words)) (c.from_vec.ensures ∙ c.reverse.ensures.items) ∙ sym (c.loop-alloc.invariant.same ∙ ap (λ l. l ++ map (plain_crow words) (reverse c.loop-alloc.rows.items)) none)

pub returns-clause-placed : goal.returns-clause-placed
returns-clause-placed c = subst (All (IsRowOf c.args.words.now)) (sym (c.from_vec.ensures ∙ c.reverse.ensures.items)) c.loop-alloc.invariant.placed
