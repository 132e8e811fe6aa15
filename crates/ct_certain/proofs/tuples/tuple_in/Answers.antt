use Rattle.std.{proofs.Common.{[], ◌∷◌, ◌++◌, map, take, get_or, ap, sym, ◌∙◌}, proofs.lemmas.List.{map-append, map_more}}
use Rattle.ct_word.{specs.Reading.term_at, specs.Value.{at, tuple_at}}
use Rattle.ct_certain.proofs.tuples.tuple_in.Goals as goal

pub loop-cell-preserved : goal.loop-cell-preserved
loop-cell-preserved c =
    let v = c.args.world.now in
    let cells = c.args.cells.now in
    let i = c.loop-cell.cell-index in
    let term = term_at c.args.words.now in
    let done = map term (take i cells) in
    c.in_ok-push.ensures.items ∙ ap (λ l. l ++ c.in_ok-value.value ∷ []) c.loop-cell.invariant
    ∙ ap (λ x. tuple_at v done ++ x ∷ []) (c.in_ok-value.ensures ∙ ap (at v []) c.in_ok-term.ensures)
    ∙ sym (map-append (at v []) done (term (get_or cells i 0) ∷ [])) ∙ ap (tuple_at v) (sym (map_more term cells i 0 c.loop-cell-test.true))
