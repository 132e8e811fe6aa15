use Rattle.std.{proofs.Common.{◌∷◌, [], ◌∙◌, subst, sym}, specs.Prelude.Contains}
use Rattle.ct_word.proofs.Items.{first_item}
use Rattle.ct_worlds.{specs.Truths.{ArePartsFirst}, proofs.Listed.{parts_first, root_listed}}
use Rattle.ct_worlds.proofs.holding.holds_below.Goals as goal

pub nulls_below-requires-clause-places : goal.nulls_below-requires-clause-places
nulls_below-requires-clause-places c =
    subst (ArePartsFirst c.args.words.now) (sym c.as_slice-places.ensures.value) (parts_first c.args.words.now (c.args.place ∷ []) c.in_ok-below.below.items c.requires.formed c.in_ok-below.ensures)

pub truths_in-requires-clause-places : goal.truths_in-requires-clause-places
truths_in-requires-clause-places c =
    subst (ArePartsFirst c.args.words.now) (sym c.as_slice-places.ensures.value) (parts_first c.args.words.now (c.args.place ∷ []) c.in_ok-below.below.items c.requires.formed c.in_ok-below.ensures)

pub returns : goal.returns
returns c =
    let place = c.args.place in
    let listed = root_listed c.args.words.now (place ∷ []) c.in_ok-below.below.items c.in_ok-below.ensures place (first_item [] place) c.requires.condition in
    c.holds.ensures ∙ c.in_ok-truths.ensures.truths place (subst (λ l. Contains l place) (sym c.as_slice-places.ensures.value) listed)
