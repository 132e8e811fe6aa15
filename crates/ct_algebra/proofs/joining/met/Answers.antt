use Rattle.std.{proofs.Common.{◌+◌, ◌∙◌, length, ap, sym, subst, arith}, specs.Prelude.{All, IsTrue}, proofs.lemmas.Result.{IfOk-weaker, err_from_is_err_and}}
use Rattle.std.{proofs.lemmas.List.length-append, proofs.lemmas.List.Elements.All-append}
use Rattle.ct_word.{specs.WellFormed.is_place_of, proofs.Prefixes.place_in_prefix}
use Rattle.ct_query.{specs.Fits.FitsRows, specs.Pred.condition_of, specs.Bounds.ops}
use Rattle.ct_condition.{specs.Terms.TermsFrom, proofs.Writes.{writes_within, writes_both}}
use Rattle.ct_operators.specs.Building.{HoldsWhere}
use Rattle.ct_algebra.{specs.Joining.{pair_holds, TermOfPair, ShownBeside}, proofs.Pairs.{shown_holds, shown_from}}
use Rattle.ct_word.specs.declared.kinds.Class.TheVariants as class
use Rattle.ct_algebra.proofs.joining.met.Goals as goal

pub placed-requires-clause-fits : goal.placed-requires-clause-fits
placed-requires-clause-fits g c =
    let l = c.args.left.now.cells in
    let r = c.args.right.now.cells in
    subst (λ n. FitsRows n (condition_of c.args.p.now)) (sym (ap (λ ps. length ps) c.requires.cells ∙ length-append l r)) c.requires.predicate

pub placed-requires-clause-cells : goal.placed-requires-clause-cells
placed-requires-clause-cells g c =
    let place : _ → Type 0 = λ s. IsTrue (is_place_of (g.I.Interner.list c.args.pass.now) class.Term s) in
    subst (All place) (sym c.requires.cells) (All-append place c.args.left.now.cells c.args.right.now.cells c.requires.left.terms c.requires.right.terms)

pub shown_beside-requires-clause-left : goal.shown_beside-requires-clause-left
shown_beside-requires-clause-left g c = place_in_prefix _ _ class.Cond c.args.left.now.cond c.placed.ensures.writes.longer c.requires.left.condition

pub shown_beside-requires-clause-right : goal.shown_beside-requires-clause-right
shown_beside-requires-clause-right g c = place_in_prefix _ _ class.Cond c.args.right.now.cond c.placed.ensures.writes.longer c.requires.right.condition

pub shown_beside-requires-clause-place : goal.shown_beside-requires-clause-place
shown_beside-requires-clause-place g c = c.in_ok-place.ensures.truth.class

pub returns-clause-holds : goal.returns-clause-holds
returns-clause-holds g c =
    let old = g.I.Interner.list c.args.pass.now in
    let mid = g.I.Interner.list c.placed.new.pass in
    let new = g.I.Interner.list c.shown_beside.new.pass in
    let put = c.in_ok-place.place in
    IfOk-weaker c.shown_beside.result (ShownBeside mid new c.args.left.now.cond c.args.right.now.cond put) (λ p. HoldsWhere new p (pair_holds old (condition_of c.args.p.now) c.args.left.now c.args.right.now))
    (λ p. shown_holds old (condition_of c.args.p.now) c.args.left.now c.args.right.now c.requires.left c.requires.right c.words.ensures.formed c.requires.predicate c.args.cells.now c.requires.cells
    mid new put p c.placed.ensures.writes.longer c.placed.ensures.begins c.placed.ensures.writes.formed c.in_ok-place.ensures.truth) c.shown_beside.ensures.shown

pub returns-clause-terms : goal.returns-clause-terms
returns-clause-terms g c =
    let old = g.I.Interner.list c.args.pass.now in
    let mid = g.I.Interner.list c.placed.new.pass in
    let new = g.I.Interner.list c.shown_beside.new.pass in
    let put = c.in_ok-place.place in
    IfOk-weaker c.shown_beside.result (ShownBeside mid new c.args.left.now.cond c.args.right.now.cond put) (λ p. TermsFrom new p (TermOfPair old (condition_of c.args.p.now) c.args.left.now c.args.right.now))
    (λ p. shown_from old (condition_of c.args.p.now) c.args.left.now c.args.right.now c.requires.left c.requires.right c.words.ensures.formed c.requires.predicate c.args.cells.now c.requires.cells
    mid new put p c.placed.ensures.writes.longer c.placed.ensures.writes.formed c.in_ok-place.ensures.truth.class c.in_ok-place.ensures.terms) c.shown_beside.ensures.shown

pub returns-clause-writes : goal.returns-clause-writes
returns-clause-writes g c = writes_within (ops (condition_of c.args.p.now) + 2) (omega arith) (writes_both c.in_ok-place.ensures.writes c.shown_beside.ensures.writes)

pub returns-in_err-place-clause-writes : goal.returns-in_err-place-clause-writes
returns-in_err-place-clause-writes g c = rw (err_from_is_err_and c.from_residual.result c.from_residual.ensures.1).1 (writes_within _ (omega arith) c.in_err-place.ensures.writes)
