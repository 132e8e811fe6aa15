use Rattle.std.{proofs.Common.{◌≡◌, true, false, ◌++◌, [], ◌∷◌, ◌<◌, length, ap, sym, subst, refl, ◌∙◌, arith, inl}, specs.Prelude.{◌⊎◌, All, IsTrue}, proofs.lemmas.Result.{IfOk-weaker, err_from_is_err_and}}
use Rattle.ct_word.{specs.Stands.TermBelow, specs.WellFormed.is_place_of, proofs.Prefixes.{prefix_of_prefix, place_in_prefix}}
use Rattle.ct_condition.{specs.Truth.{HasTruth, not_at}, specs.Terms.{TermsFrom, BelowSome}, proofs.Denied.below_literal, proofs.Writes.{writes_none, writes_both, writes_within}}
use Rattle.ct_operators.{specs.Building.HoldsWhere, specs.Placing.tuple_of, specs.Tables.value_of_rows, specs.Terms.TermOfRow, proofs.Holding.{holds_as, holds_true}}
use Rattle.ct_query.specs.Assertions.{agree, clash, keep_apart}
use Rattle.ct_constraint.{specs.Comparing.MayAgree, proofs.Apart.pair_differs, proofs.Turns.{pair_kept, pair_from}}
use Rattle.ct_word.specs.declared.kinds.Class.TheVariants as class
use Rattle.ct_constraint.proofs.comparing.apart.Goals as goal

pub returns-then-differ_at-clause-holds : goal.returns-then-differ_at-clause-holds
returns-then-differ_at-clause-holds g c =
    let old = g.I.Interner.list c.args.pass.now in
    let l = c.args.left.now in
    let r = c.args.right.now in
    holds_as old 0 (λ v. true) _
    (λ v. pair_differs c.args.columns.now old v l r (subst (λ ws. agree c.args.columns.now (tuple_of ws l.cells v) (tuple_of ws r.cells v) ≡ false) c.words.ensures.words
    (subst (λ ps. agree c.args.columns.now (tuple_of c.words.result.now ps v) (tuple_of c.words.result.now r.cells v) ≡ false) c.as_slice-mine.ensures
    (subst (λ qs. agree c.args.columns.now (tuple_of c.words.result.now c.as_slice-mine.result.now v) (tuple_of c.words.result.now qs v) ≡ false) c.as_slice-theirs.ensures (c.differ_at.ensures.differ c.if-differ_at.true v)))))
    (holds_true old c.words.ensures.begins c.words.ensures.formed)

pub returns-then-differ_at-clause-terms : goal.returns-then-differ_at-clause-terms
returns-then-differ_at-clause-terms g c t h = absurd (below_literal (g.I.Interner.list c.args.pass.now) c.words.ensures.formed c.words.ensures.begins 0 (inl refl) t h)

pub returns-then-differ_at-clause-writes : goal.returns-then-differ_at-clause-writes
returns-then-differ_at-clause-writes g c = writes_none _ c.words.ensures.formed c.words.ensures.room

pub returns-clause-holds : goal.returns-clause-holds
returns-clause-holds g c =
    let old = g.I.Interner.list c.args.pass.now in
    let m1 = g.I.Interner.list c.clashing.new.pass in
    let m2 = g.I.Interner.list c.and.new.pass in
    let m3 = g.I.Interner.list c.and-2.new.pass in
    let new = g.I.Interner.list c.not.new.pass in
    let l = c.args.left.now in
    let r = c.args.right.now in
    let columns = c.args.columns.now in
    let clashes = subst (λ ps. HoldsWhere m1 c.in_ok-clash.clash (λ v. clash columns (tuple_of old ps v) (tuple_of old r.cells v))) c.as_slice-mine.ensures
    (subst (λ qs. HoldsWhere m1 c.in_ok-clash.clash (λ v. clash columns (tuple_of old c.as_slice-mine.result.now v) (tuple_of old qs v))) c.as_slice-theirs.ensures c.in_ok-clash.ensures.holds) in
    IfOk-weaker c.not.result (λ p. HasTruth new p (not_at m3 c.in_ok-both.both)) (λ p. HoldsWhere new p (λ v. keep_apart columns (value_of_rows old v (l ∷ [])) (value_of_rows old v (r ∷ []))))
    (λ p. pair_kept columns old m1 m2 m3 new l r c.in_ok-clash.clash c.in_ok-one.one c.in_ok-both.both p c.in_ok-clash.ensures.writes.longer c.in_ok-one.ensures.longer c.requires.left.condition c.requires.right.condition
    clashes c.in_ok-one.ensures.truth c.in_ok-both.ensures.truth) c.not.ensures.truth

pub returns-clause-terms : goal.returns-clause-terms
returns-clause-terms g c =
    let old = g.I.Interner.list c.args.pass.now in
    let m1 = g.I.Interner.list c.clashing.new.pass in
    let m2 = g.I.Interner.list c.and.new.pass in
    let m3 = g.I.Interner.list c.and-2.new.pass in
    let new = g.I.Interner.list c.not.new.pass in
    let l = c.args.left.now in
    let r = c.args.right.now in
    let from = subst (λ ps. TermsFrom m1 c.in_ok-clash.clash (BelowSome old (ps ++ r.cells))) c.as_slice-mine.ensures
    (subst (λ qs. TermsFrom m1 c.in_ok-clash.clash (BelowSome old (c.as_slice-mine.result.now ++ qs))) c.as_slice-theirs.ensures c.in_ok-clash.ensures.terms) in
    IfOk-weaker c.not.result (λ p. TermsFrom new p (TermBelow m3 c.in_ok-both.both)) (λ p. TermsFrom new p (λ t. TermOfRow old l t ⊎ TermOfRow old r t))
    (λ p below t h. pair_from old m1 m2 m3 c.in_ok-clash.ensures.writes.longer c.in_ok-one.ensures.longer c.words.ensures.formed l r c.in_ok-clash.clash c.in_ok-one.one c.in_ok-both.both c.requires.left.condition c.requires.right.condition
    from c.in_ok-one.ensures.terms c.in_ok-both.ensures.terms t (below t h)) c.not.ensures.terms

pub returns-clause-writes : goal.returns-clause-writes
returns-clause-writes g c =
    writes_within _ (omega (arith, ap (λ l. length l) c.as_slice-mine.ensures)) (writes_both c.in_ok-clash.ensures.writes (writes_both c.in_ok-one.ensures.writes (writes_both c.in_ok-both.ensures.writes c.not.ensures.writes)))

pub returns-in_err-clash-clause-writes : goal.returns-in_err-clash-clause-writes
returns-in_err-clash-clause-writes g c =
    rw (err_from_is_err_and c.from_residual.result c.from_residual.ensures.1).1 (writes_within _ (omega (arith, ap (λ l. length l) c.as_slice-mine.ensures)) c.in_err-clash.ensures.writes)

pub returns-in_err-one-clause-writes : goal.returns-in_err-one-clause-writes
returns-in_err-one-clause-writes g c =
    rw (err_from_is_err_and c.from_residual-in_err-one.result c.from_residual-in_err-one.ensures.1).1
    (writes_within _ (omega (arith, ap (λ l. length l) c.as_slice-mine.ensures)) (writes_both c.in_ok-clash.ensures.writes c.in_err-one.ensures.writes))

pub returns-in_err-both-clause-writes : goal.returns-in_err-both-clause-writes
returns-in_err-both-clause-writes g c =
    rw (err_from_is_err_and c.from_residual-in_err-both.result c.from_residual-in_err-both.ensures.1).1
    (writes_within _ (omega (arith, ap (λ l. length l) c.as_slice-mine.ensures)) (writes_both c.in_ok-clash.ensures.writes (writes_both c.in_ok-one.ensures.writes c.in_err-both.ensures.writes)))

pub clashing-requires : goal.clashing-requires
clashing-requires g c = record {
  left = subst (All (λ p. IsTrue (is_place_of (g.I.Interner.list c.args.pass.now) class.Term p))) (sym c.as_slice-mine.ensures) c.requires.left.terms;
  right = subst (All (λ p. IsTrue (is_place_of (g.I.Interner.list c.args.pass.now) class.Term p))) (sym c.as_slice-theirs.ensures) c.requires.right.terms;
  lengths = ap (λ l. length l) c.as_slice-mine.ensures ∙ sym c.requires.right.width_is ∙ sym (ap (λ l. length l) c.as_slice-theirs.ensures);
  columns = subst (λ l. All (λ k. k < length l) c.args.columns.now) (sym c.as_slice-mine.ensures) c.requires.columns;
  may = subst (λ ws. MayAgree ws c.as_slice-mine.result.now c.as_slice-theirs.result.now c.args.columns.now) c.words.ensures.words (c.differ_at.ensures.may c.if-differ_at.false);
}

pub and-requires-clause-left : goal.and-requires-clause-left
and-requires-clause-left g c = place_in_prefix _ _ class.Cond c.args.right.now.cond c.in_ok-clash.ensures.writes.longer c.requires.right.condition

pub and-requires-clause-right : goal.and-requires-clause-right
and-requires-clause-right g c = c.in_ok-clash.ensures.holds.class

pub and-requires-2-clause-left : goal.and-requires-2-clause-left
and-requires-2-clause-left g c =
    place_in_prefix _ _ class.Cond c.args.left.now.cond (prefix_of_prefix _ _ _ c.in_ok-clash.ensures.writes.longer c.in_ok-one.ensures.longer) c.requires.left.condition

pub and-requires-2-clause-right : goal.and-requires-2-clause-right
and-requires-2-clause-right g c = c.in_ok-one.ensures.truth.class
