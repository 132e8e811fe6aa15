use Rattle.std.{proofs.Common.{◌∙◌, ap, sym, length, arith, to_z, of_z, w32}, proofs.lemmas.Int.to_z-of_z, proofs.lemmas.Option.get_or_from_slice_get}
use borrow.Author.Rules.{sfits_of}
use Rattle.ct_trail.{specs.Literal.{is_literal, LARGEST}, specs.Analysis.IsDecision, proofs.Assignments.wider, proofs.Returns.back_at, proofs.Trails.nothing}
use Rattle.ct_trail.proofs.analysis.next_turn.Goals as goal

pub opposite-literal-requires : goal.opposite-literal-requires
opposite-literal-requires c =
    let last = c.in-Some.ensures in
    let is = get_or_from_slice_get c.args.trail.now c.in-Some.place last.put nothing last.there in
    ap (λ x. is_literal LARGEST x.literal) is ∙ wider (length c.args.marks.now) LARGEST last.put.literal c.requires.vars (c.requires.trail.each c.in-Some.place last.put last.there)

pub returns-in-Some-default : goal.returns-in-Some-default
returns-in-Some-default c =
    let e = to_z-of_z w32 c.opposite-literal.result (sfits_of c.opposite-literal.type_inv) ∙ c.opposite-literal.ensures in
    back_at c.args.marks.now c.args.trail.now c.args.end c.in-Some.place c.behind_kept-low.result c.in-Some-default.cut nothing
    (to_z w32 (of_z w32 c.opposite-literal.result)) c.in-Some.ensures c.in-Some-default.ensures.from (omega (arith, c.in-Some-default.ensures.to)) c.behind_kept-low.ensures.none c.in-Some-default.ensures.decided e

pub returns-in-None-None : goal.returns-in-None-None
returns-in-None-None c =
    let e = to_z-of_z w32 c.opposite-literal.result (sfits_of c.opposite-literal.type_inv) ∙ c.opposite-literal.ensures in
    let last = c.in-Some.ensures in
    let is = get_or_from_slice_get c.args.trail.now c.in-Some.place last.put nothing last.there in
    let decision : IsDecision c.args.trail.now c.in-Some.place = record { put = last.put; there = last.there; decided = ap (λ x. x.reason) (sym is) ∙ c.in-None-None.is-1 } in
    back_at c.args.marks.now c.args.trail.now c.args.end c.in-Some.place c.behind_kept-low.result c.in-Some.place nothing
    (to_z w32 (of_z w32 c.opposite-literal.result)) last c.behind_kept-low.ensures.below (omega arith) c.behind_kept-low.ensures.none decision e

pub returns-in-None-Some : goal.returns-in-None-Some
returns-in-None-Some c =
    let last = c.in-Some.ensures in
    let is = get_or_from_slice_get c.args.trail.now c.in-Some.place last.put nothing last.there in
    record { last = last; reason = ap (λ x. x.reason) (sym is) ∙ c.in-None-Some.is-1 }
