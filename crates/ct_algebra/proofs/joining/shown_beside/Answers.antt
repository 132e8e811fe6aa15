use Rattle.std.{proofs.Common.{refl, arith}, proofs.lemmas.Result.{err_from_is_err_and}}
use Rattle.ct_word.{proofs.Prefixes.place_in_prefix}
use Rattle.ct_condition.{specs.Truth.{HasTruth, and_at}, specs.Terms.{TermsFrom, BelowEither}, proofs.Writes.{writes_within, writes_both, writes_none}}
use Rattle.ct_algebra.{specs.Joining.{ShownBeside, as_it_is, with_both}, proofs.Pairs.both_ok}
use Rattle.ct_word.specs.declared.kinds.Class.TheVariants as class
use Rattle.ct_algebra.proofs.joining.shown_beside.Goals as goal

pub returns-then-place-eq-FALSE_PLACE-clause-shown : goal.returns-then-place-eq-FALSE_PLACE-clause-shown
returns-then-place-eq-FALSE_PLACE-clause-shown g c = as_it_is c.if-place-eq-FALSE_PLACE.true refl

pub returns-then-place-eq-FALSE_PLACE-clause-writes : goal.returns-then-place-eq-FALSE_PLACE-clause-writes
returns-then-place-eq-FALSE_PLACE-clause-writes g c = writes_none _ c.words.ensures.formed c.words.ensures.room

pub and-requires-2-clause-right : goal.and-requires-2-clause-right
and-requires-2-clause-right g c = place_in_prefix _ _ class.Cond c.args.place c.and.ensures.longer c.requires.place

pub and-requires-2-clause-left : goal.and-requires-2-clause-left
and-requires-2-clause-left g c = c.in_ok-both.ensures.truth.class

pub returns-clause-shown : goal.returns-clause-shown
returns-clause-shown g c =
    let old = g.I.Interner.list c.args.pass.now in
    let last = g.I.Interner.list c.and.new.pass in
    let new = g.I.Interner.list c.and-2.new.pass in
    let both = c.in_ok-both.both in
    both_ok c.and-2.result (λ p. HasTruth new p (and_at last both c.args.place)) (λ p. TermsFrom new p (BelowEither last both c.args.place)) (ShownBeside old new c.args.left.now.cond c.args.right.now.cond c.args.place)
    (λ p truth terms. with_both last both p c.and.ensures.longer c.in_ok-both.ensures.truth c.in_ok-both.ensures.terms truth terms) c.and-2.ensures.truth c.and-2.ensures.terms

pub returns-clause-writes : goal.returns-clause-writes
returns-clause-writes g c = writes_within 2 (omega arith) (writes_both c.in_ok-both.ensures.writes c.and-2.ensures.writes)

pub returns-in_err-both-clause-writes : goal.returns-in_err-both-clause-writes
returns-in_err-both-clause-writes g c = rw (err_from_is_err_and c.from_residual.result c.from_residual.ensures.1).1 (writes_within 2 (omega arith) c.in_err-both.ensures.writes)
