use Rattle.std.proofs.Common.{sym, subst}
use Rattle.std.specs.Prelude.{All}
use Rattle.ct_worlds.{specs.Repaired.{IsChanged, IsDrawn, IsOverTerms, IsWishBelow}, proofs.Drawing.{changed_is, over_terms}, proofs.Each.for_some}
use Rattle.ct_worlds.proofs.repairing.changed.Goals as goal

pub drawn-requires-clause-terms : goal.drawn-requires-clause-terms
drawn-requires-clause-terms c =
    subst (All (IsOverTerms c.args.words.now)) (sym c.as_slice.ensures.value) (over_terms c.args.words.now c.args.conditions.now c.in_ok-wishes.wishes.items c.in_ok-wishes.ensures)

pub returns : goal.returns
returns c =
    let words = c.args.words.now in
    let wishes = c.as_slice.result.now in
    for_some (IsDrawn words wishes c.args.next c.args.world.now) (IsChanged words c.args.conditions.now c.args.next c.args.world.now) c.drawn.result
    (λ w d. changed_is words c.args.conditions.now wishes c.args.next c.args.world.now w (subst (All (IsWishBelow words c.args.conditions.now)) (sym c.as_slice.ensures.value) c.in_ok-wishes.ensures) d) c.drawn.ensures
