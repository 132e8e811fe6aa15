use Rattle.std.proofs.Common.{◌≡◌, [], ◌∷◌, ◌++◌, append-nil, map, ap, sym, subst, ◌∙◌}
use Rattle.ct_word.specs.Reading.{term_at}
use Rattle.ct_certain.specs.Possible.{listed}
use Rattle.ct_certain.proofs.showing.list_row.Goals as goal

pub returns-in-None : goal.returns-in-None
returns-in-None c =
    let old = c.args.list.now.items in
    subst (λ o. old ≡ old ++ listed c.args.words.now c.args.row.now o) (sym c.in-None.is) (sym (append-nil old))

pub returns-in_ok-push-in-Some : goal.returns-in_ok-push-in-Some
returns-in_ok-push-in-Some c =
    let words = c.args.words.now in
    let old = c.args.list.now.items in
    c.in_ok-push-in-Some.ensures.items ∙ ap (λ cs. old ++ (record { cells = cs; world = c.in-Some.world }) ∷ []) (c.in_ok-cells-in-Some.ensures ∙ ap (map (term_at words)) c.as_slice.ensures)
    ∙ ap (λ o. old ++ listed words c.args.row.now o) (sym c.in-Some.is)
