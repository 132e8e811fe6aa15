use Rattle.std.proofs.Common.{◌++◌, ◌∷◌, [], map, set, ap, sym, ◌∙◌}
use Rattle.ct_word.specs.Value.{same_text}
use Rattle.ct_table.{proofs.Entries.missing, proofs.Shared.{headed_last, headed_set, position_is}}
use Rattle.ct_table.proofs.pending.headed.Goals as goal

pub returns-in-Some : goal.returns-in-Some
returns-in-Some c t n is =
    let es = c.args.tables.now.entries in
    let place = c.in-Some.place in
    ap (λ l. set l place c.args.heading) c.requires.headings
    ∙ headed_set c.args.name.now t c.args.heading n is es place (position_is (same_text c.args.name.now) (map (λ e. e.0) es) place c.in-Some.ensures.index) (sym c.in-Some.ensures.found)

pub returns-in-None : goal.returns-in-None
returns-in-None c t n is =
    c.push_reserved.ensures.items ∙ ap (λ l. l ++ c.args.heading ∷ []) c.requires.headings
    ∙ headed_last c.args.name.now t c.args.heading n is c.args.tables.now.entries (missing _ (sym c.in-None.ensures.found))
