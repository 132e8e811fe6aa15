use Rattle.std.{proofs.Common.{◌≡◌, ◌++◌, ◌∷◌, [], ap, sym, ◌∙◌, take, arith}, specs.Prelude.slice_get, proofs.lemmas.List.take-map}
use Rattle.ct_table.{specs.Growing.Keyed, proofs.Putting.rows_one_more}
use Rattle.ct_operators.specs.Merging.{rows_of}
use Rattle.ct_table.proofs.stored.Stored.copied.Goals as goal

pub loop-place-preserved : goal.loop-place-preserved
loop-place-preserved c =
    let r = c.at-row.result.now in
    c.in_ok-push.ensures.items
    ∙ (λ i. c.loop-place.invariant i ++ c.in_ok-under.ensures i ∷ [])
    ∙ rows_one_more c.args.self.now.entries c.loop-place.place (r.cells, r.cond) (sym (ap (λ (k : Keyed). slice_get k.entries c.loop-place.place) c.self.view_is) ∙ c.at-row.ensures)

pub returns : goal.returns
returns c =
    let es = c.args.self.now.entries in
    let end : c.loop-place.place ≡ c.args.len = omega arith in
    let columns = c.in_ok-names.ensures ∙ c.deref.ensures ∙ ap (λ (k : Keyed). k.columns) c.self.view_is in
    let rows = c.from_vec.ensures ∙ c.loop-place.invariant ∙ ap (λ n. take n (rows_of es)) end ∙ take-map (λ e. record { cells = e.0; cond = e.1 }) c.args.len es in
    λ i. record { columns = columns i; rows = rows i }
