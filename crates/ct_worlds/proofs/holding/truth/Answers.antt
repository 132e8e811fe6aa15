use Rattle.std.{proofs.Common.{◌≡◌, ◌∙◌, not, ap, subst, sym}, specs.Prelude.IfOk}
use Rattle.ct_word.specs.Connective.{join}
use Rattle.ct_worlds.{specs.Shape.parts_of, specs.Truths.{HaveTruths, found_in}, proofs.Shaped.shaped_as, proofs.Kept.truth_is}
use Rattle.ct_worlds.specs.declared.shape.Shape.TheVariants as shape
use Rattle.ct_worlds.proofs.holding.truth.Goals as goal

pub are_equal-requires-clause-first : goal.are_equal-requires-clause-first
are_equal-requires-clause-first c = (shaped_as c.args.words.now c.args.place {s = shape.Equal c.in-Equal.a c.in-Equal.b} c.requires.formed c.requires.condition c.shape_at.ensures c.in-Equal.is).terms.0

pub are_equal-requires-clause-second : goal.are_equal-requires-clause-second
are_equal-requires-clause-second c = (shaped_as c.args.words.now c.args.place {s = shape.Equal c.in-Equal.a c.in-Equal.b} c.requires.formed c.requires.condition c.shape_at.ensures c.in-Equal.is).terms.1.0

pub returns-in-Literal-clause-truth : goal.returns-in-Literal-clause-truth
returns-in-Literal-clause-truth c =
    let words = c.args.words.now in
    let v = c.args.valuation.now.listed.now in
    truth_is words v c.args.place (found_in c.args.truths.now) (shape.Literal c.in-Literal.truth) (shaped_as words c.args.place c.requires.formed c.requires.condition c.shape_at.ensures c.in-Literal.is)
    (subst (λ s. HaveTruths words v (parts_of s) (found_in c.args.truths.now)) (sym c.shape_at.ensures ∙ c.in-Literal.is) c.requires.parts)

pub returns-in-Equal-clause-truth : goal.returns-in-Equal-clause-truth
returns-in-Equal-clause-truth c =
    let words = c.args.words.now in
    let v = c.args.valuation.now.listed.now in
    subst (λ y. IfOk c.are_equal.result (λ b. b ≡ y))
    (truth_is words v c.args.place (found_in c.args.truths.now) (shape.Equal c.in-Equal.a c.in-Equal.b) (shaped_as words c.args.place c.requires.formed c.requires.condition c.shape_at.ensures c.in-Equal.is)
    (subst (λ s. HaveTruths words v (parts_of s) (found_in c.args.truths.now)) (sym c.shape_at.ensures ∙ c.in-Equal.is) c.requires.parts))
    c.are_equal.ensures.value

pub returns-in-Not-clause-truth : goal.returns-in-Not-clause-truth
returns-in-Not-clause-truth c =
    let words = c.args.words.now in
    let v = c.args.valuation.now.listed.now in
    ap not c.holds.ensures
    ∙ truth_is words v c.args.place (found_in c.args.truths.now) (shape.Not c.in-Not.part) (shaped_as words c.args.place c.requires.formed c.requires.condition c.shape_at.ensures c.in-Not.is)
    (subst (λ s. HaveTruths words v (parts_of s) (found_in c.args.truths.now)) (sym c.shape_at.ensures ∙ c.in-Not.is) c.requires.parts)

pub returns-in-Joined-clause-truth : goal.returns-in-Joined-clause-truth
returns-in-Joined-clause-truth c =
    let words = c.args.words.now in
    let v = c.args.valuation.now.listed.now in
    c.join.ensures ∙ (λ i. join c.in-Joined.connective (c.holds-in-Joined.ensures i) (c.holds-in-Joined-2.ensures i))
    ∙ truth_is words v c.args.place (found_in c.args.truths.now) (shape.Joined c.in-Joined.connective c.in-Joined.a c.in-Joined.b) (shaped_as words c.args.place c.requires.formed c.requires.condition c.shape_at.ensures c.in-Joined.is)
    (subst (λ s. HaveTruths words v (parts_of s) (found_in c.args.truths.now)) (sym c.shape_at.ensures ∙ c.in-Joined.is) c.requires.parts)
