use Rattle.std.{proofs.Common.{◌≡◌, ◌+◌, ◌-◌, ◌∙◌, ◌++◌, ◌∷◌, [], length, get_or, drop, ap, sym, arith, neg_ℤ, w32}, proofs.lemmas.Int.to_z-of_z}
use borrow.Author.Rules.{sfits_of}
use Rattle.ct_trail.{specs.Literal.LARGEST, specs.Marks.kept_of, proofs.Assignments.wider, proofs.Returns.{kept_more, kept_less}, proofs.Trails.{nothing, put_there}}
use Rattle.ct_trail.proofs.analysis.kept.Goals as goal

pub keeps-requires-clause-within : goal.keeps-requires-clause-within
keeps-requires-clause-within c =
    let i = c.loop-place.place - 1 in
    c.requires.trail.each i (get_or c.args.trail.now i nothing) (put_there c.args.trail.now i (omega (arith, c.loop-place-test.true, c.loop-place.auto.place)))

pub opposite-requires : goal.opposite-requires
opposite-requires c =
    let i = c.loop-place.place - 1 in
    let p = get_or c.args.trail.now i nothing in
    wider (length c.args.marks.now) LARGEST p.literal c.requires.vars (c.requires.trail.each i p (put_there c.args.trail.now i (omega (arith, c.loop-place-test.true, c.loop-place.auto.place))))

pub loop-place-preserved-in-Continue-1 : goal.loop-place-preserved-in-Continue-1
loop-place-preserved-in-Continue-1 c =
    let i = c.loop-place.place - 1 in
    let trail = c.args.trail.now in
    let marks = c.args.marks.now in
    let next : i + 1 ≡ c.loop-place.place = omega (arith, c.loop-place-test.true) in
    let more = kept_more marks trail i nothing (omega (arith, c.loop-place-test.true, c.loop-place.auto.place)) (sym c.keeps.ensures ∙ c.if-keeps.true) in
    c.in_ok-push.ensures.items ∙ ap (λ l. c.loop-place.clause.items ++ l ∷ []) (to_z-of_z w32 c.opposite.result (sfits_of c.opposite.type_inv) ∙ c.opposite.ensures)
    ∙ ap (λ x. x ++ neg_ℤ (get_or trail i nothing).literal ∷ []) (c.loop-place.invariant ∙ ap (λ n. kept_of marks (drop n trail)) (sym next)) ∙ sym more

pub loop-place-preserved : goal.loop-place-preserved
loop-place-preserved c =
    let i = c.loop-place.place - 1 in
    let trail = c.args.trail.now in
    let marks = c.args.marks.now in
    let next : i + 1 ≡ c.loop-place.place = omega (arith, c.loop-place-test.true) in
    let less = kept_less marks trail i nothing (omega (arith, c.loop-place-test.true, c.loop-place.auto.place)) (sym c.keeps.ensures ∙ c.if-keeps.false) in
    c.loop-place.invariant ∙ ap (λ n. kept_of marks (drop n trail)) (sym next) ∙ sym less
