use Rattle.std.proofs.Common.{◌≡◌, true, [], ◌∷◌, Ok, sym, ap, subst, arith}
use Rattle.std.{specs.Prelude.{OnOk, Contains}, proofs.lemmas.Result.err_from_is_err_and, proofs.lemmas.List.Sums.get_or-le-sum_by}
use Rattle.ct_word.proofs.Items.{first_item, later_item, sole_item}
use Rattle.ct_query.{specs.declared.query.Pred.{And, Or}, proofs.Trees.{and_is, or_is}, specs.Fields.FitsFields, specs.Pred.condition_of, specs.Terms.condition_terms}
use Rattle.ct_condition.{specs.Places.has_place, proofs.Depth.{parts_of, parts_under}}
use Rattle.ct_algebra.{specs.Words.{EachLiteral, GrowsWithin}, proofs.Appending.grows_then}
use Rattle.ct_algebra.proofs.Putting.{both_placed, run_terms, item_within, rest_within, placed_more, all_placed}
use Rattle.ct_word.specs.declared.connectives.Connective.TheVariants as connective
use Rattle.ct_algebra.proofs.literals.+put_literals.Goals as goal

pub put_literals-put_literal-requires-in-Same : goal.put_literals-put_literal-requires-in-Same
put_literals-put_literal-requires-in-Same g t c = record {
  fits = λ u l h.
      let fits = subst (λ p. EachLiteral FitsFields (condition_terms (condition_of p))) c.in-Same.is c.requires.fits in
      fits u l (later_item (c.in-Same.other ∷ []) c.in-Same.one u h);
}

pub put_literals-returns-in_ok-put_literal-in-Same-clause-placed : goal.put_literals-returns-in_ok-put_literal-in-Same-clause-placed
put_literals-returns-in_ok-put_literal-in-Same-clause-placed g t c =
    let new = c.put_literal-in-Same.new.pass.words in
    subst (λ p. OnOk c.put_literal-in-Same.result (EachLiteral (λ u. has_place new u ≡ true) (condition_terms (condition_of p)))) (sym c.in-Same.is)
    (both_placed c.put_literal-in-Same.result c.put_literal.new.pass.words new c.in-Same.one c.in-Same.other c.put_literal-in-Same.ensures.grows.writes.longer
    c.in_ok-put_literal-in-Same.ensures.placed c.put_literal-in-Same.ensures.placed)

pub put_literals-returns-in_ok-put_literal-in-Same-clause-grows : goal.put_literals-returns-in_ok-put_literal-in-Same-clause-grows
put_literals-returns-in_ok-put_literal-in-Same-clause-grows g t c =
    let s = c.in-Same.one in
    let u = c.in-Same.other in
    subst (λ p. GrowsWithin g.N.Site.log.cap c.put_literal-in-Same.result c.args.pass.now c.put_literal-in-Same.new.pass (condition_terms (condition_of p)) 0)
    (sym c.in-Same.is)
    (grows_then _ _ _ (s ∷ u ∷ []) tt c.put_literal-in-Same.result (s ∷ []) (u ∷ []) 0 0 0
    (λ x h. subst (λ y. Contains (s ∷ u ∷ []) y) (sole_item s x h) (first_item (u ∷ []) s)) (λ x h. later_item (u ∷ []) s x h) (omega arith)
    c.in_ok-put_literal-in-Same.ensures.grows c.put_literal-in-Same.ensures.grows)

pub put_all_literals-loop-p-preserved : goal.put_all_literals-loop-p-preserved
put_all_literals-loop-p-preserved g t c =
    let ps = c.args.preds.now in
    let i = c.loop-p.p-index in
    let p = c.p-item.result in
    let mid = c.loop-p.pass.words in
    let new = c.put_literals.new.pass.words in
    record {
      rest = λ u h. c.loop-p.invariant.rest u (rest_within ps i p c.loop-p-test.true c.p-item.is u h);
      placed = λ u l h. placed_more ps i p c.loop-p-test.true c.p-item.is mid new u c.in_ok-put_literals.ensures.grows.writes.longer l c.in_ok-put_literals.ensures.placed (c.loop-p.invariant.placed u l h);
      grows =
          grows_then _ _ _ (run_terms ps) tt (Ok tt) (run_terms ps) (condition_terms (condition_of p)) 0 0 0 (λ u h. h)
          (λ u h. c.loop-p.invariant.rest u (item_within ps i p c.loop-p-test.true c.p-item.is u h)) (omega arith) c.loop-p.invariant.grows c.in_ok-put_literals.ensures.grows;
    }

pub put_all_literals-returns-clause-placed : goal.put_all_literals-returns-clause-placed
put_all_literals-returns-clause-placed g t c =
    λ u l h. all_placed c.args.preds.now c.loop-p.p-index c.loop-p.pass.words u (omega (arith, c.loop-p-test.false)) (c.loop-p.invariant.placed u l h)

pub put_literals-put_all_literals-requires : goal.put_literals-put_all_literals-requires
put_literals-put_all_literals-requires g t c κs within =
    let cs = c.as_slice.result.now in
    let is : c.args.p.now ≡ And cs = cc in
    let fits = subst (λ p. EachLiteral FitsFields (condition_terms (condition_of p))) is c.requires.fits in
    (omega (arith, c.decreases, parts_under connective.And c.args.p.now cs is), (within, subst (λ d. EachLiteral FitsFields (condition_terms d)) (and_is cs) fits))

pub put_literals-put_all_literals-requires-in-Or : goal.put_literals-put_all_literals-requires-in-Or
put_literals-put_all_literals-requires-in-Or g t c κs within =
    let cs = c.as_slice-in-Or.result.now in
    let is : c.args.p.now ≡ Or cs = cc in
    let fits = subst (λ p. EachLiteral FitsFields (condition_terms (condition_of p))) is c.requires.fits in
    (omega (arith, c.decreases, parts_under connective.Or c.args.p.now cs is), (within, subst (λ d. EachLiteral FitsFields (condition_terms d)) (or_is cs) fits))

pub put_all_literals-put_literals-requires : goal.put_all_literals-put_literals-requires
put_all_literals-put_literals-requires g t c κs within =
    let ps = c.args.preds.now in
    let i = c.loop-p.p-index in
    let p = c.p-item.result in
    let less = get_or-le-sum_by parts_of ps i p c.loop-p-test.true in
    let same = ap parts_of c.p-item.is in
    (omega (arith, less, same, c.decreases), (within, λ u l h. c.requires.fits u l (c.loop-p.invariant.rest u (item_within ps i p c.loop-p-test.true c.p-item.is u h))))

pub put_all_literals-returns-in_err-put_literals-clause-grows : goal.put_all_literals-returns-in_err-put_literals-clause-grows
put_all_literals-returns-in_err-put_literals-clause-grows g t c =
    let ps = c.args.preds.now in
    let p = c.p-item.result in
    let exit = err_from_is_err_and c.from_residual.result c.from_residual.ensures.1 in
    rw (exit.1, exit.2)
    (grows_then _ _ _ (run_terms ps) tt _ (run_terms ps) (condition_terms (condition_of p)) 0 0 0 (λ u h. h)
    (λ u h. c.loop-p.invariant.rest u (item_within ps c.loop-p.p-index p c.loop-p-test.true c.p-item.is u h)) (omega arith) c.loop-p.invariant.grows c.in_err-put_literals.ensures.grows)
