use Rattle.std.proofs.Common.{◌≡◌, ◌<◌, ℕ, List, ◌∷◌, [], ◌++◌, length, take, get_or, ap, sym, subst, ◌∙◌, rules, arith}
use Rattle.std.{proofs.lemmas.List.{take_more, take_all, length_push, map_push}, proofs.lemmas.Iterator.Adapters.YieldsList-from_vec}
use Rattle.std.proofs.lemmas.Iterator.Consumers.{YieldsList-turn, YieldsList-end}
use Rattle.ct_word.specs.declared.values.CRow.{CRow}
use Rattle.ct_table.{specs.Growing.{put, put_each, entries_of}, proofs.Putting.{put_one_more, put_apart}}
use Rattle.ct_table.proofs.stored.Stored.make.Goals as goal

pub loop-row-preserved : goal.loop-row-preserved
loop-row-preserved c =
    let rows = c.args.table.rows in
    let n = length c.loop-row.yielded in
    let r = c.in-Some.row in
    let t = YieldsList-turn (YieldsList-from_vec c.into_vec-row-items.result.items (search rules) (search rules)) c.loop-row.yielded _ c.loop-row.yielded_by _ c.next.new.self r c.in-Some.is c.next.ensures.steps in
    let lt : n < length rows = subst (λ l. n < length l) c.into_vec-row-items.ensures t.0 in
    let is : r ≡ get_or rows n r = t.1 ∙ ap (λ l. get_or l n r) c.into_vec-row-items.ensures in
    let done : take n rows ++ r ∷ [] ≡ take (length (c.loop-row.yielded ++ r ∷ [])) rows =
    ap (λ x. take n rows ++ x ∷ []) is ∙ sym (take_more rows n r lt) ∙ ap (λ k. take k rows) (sym (length_push c.loop-row.yielded r)) in
    let p : List ℕ × ℕ = (r.cells, r.cond) in
    c.in_ok-put.ensures.put ∙ (λ i. put (c.loop-row.invariant i) (c.in_ok-new.ensures.ok i).cells (c.in_ok-new.ensures.ok i).cond)
    ∙ sym (put_one_more p (entries_of (take n rows)) []) ∙ ap (put_each []) (sym (map_push (λ (x : CRow). (x.cells, x.cond)) (take n rows) r) ∙ ap entries_of done)

pub returns-clause-entries : goal.returns-clause-entries
returns-clause-entries c apart =
    let rows = c.args.table.rows in
    let e = YieldsList-end (YieldsList-from_vec c.into_vec-row-items.result.items (search rules) (search rules)) c.loop-row.yielded _ c.loop-row.yielded_by _ c.next.new.self c.in-None.is c.next.ensures.steps in
    let long : length c.into_vec-row-items.result.items ≡ length rows = ap (λ l. length l) c.into_vec-row-items.ensures in
    c.loop-row.invariant ∙ ap (λ l. put_each [] (entries_of l)) (take_all (length c.loop-row.yielded) rows (omega (arith, e.1, long))) ∙ put_apart [] (entries_of rows) apart
