use Rattle.std.proofs.{Common.{◌+◌, ◌++◌, [], drop, get_or, ap, sym, ◌∙◌, append_assoc}, lemmas.List.drop_more}
use Rattle.ct_word.specs.Reading.{term_at}
use Rattle.ct_equality.{specs.Members.class_of, specs.Valued.{class_value, world_of}, proofs.Worlds.pair_before}
use Rattle.ct_equality.proofs.values.world.Goals as goal

pub loop-place-preserved : goal.loop-place-preserved
loop-place-preserved c =
    let words = c.args.words.now in
    let ms = c.args.members.now in
    let terms = c.args.terms.now in
    let i = c.loop-place.place-index in
    let t = get_or terms i 0 in
    let old = c.loop-place.pairs.items in
    let rest = world_of words ms (drop (i + 1) terms) in
    ap (λ l. l ++ rest) c.in_ok-add_pair.ensures ∙ append_assoc old _ rest
    ∙ ap (λ l. old ++ l) (sym (pair_before (term_at words t) (class_value words ms (class_of ms t)) [] rest) ∙ ap (world_of words ms) (sym (drop_more terms i 0 c.loop-place-test.true))) ∙ c.loop-place.invariant
