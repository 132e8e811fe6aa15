use Rattle.std.{proofs.Common.{false, refl, inr, subst, ◌≡◌, ◌∙◌, length, ap, sym, arith, ◌∷◌, ◌++◌}, specs.Option.IsSome}
use Rattle.std.proofs.lemmas.Result.{err_from_is_err_and}
use Rattle.ct_condition.{specs.Folding.folded_and, proofs.Writes.{writes_none, writes_within}, proofs.Denied.below_literal, specs.Terms.{TermsFrom, BelowSome}}
use Rattle.ct_operators.{specs.Building.HoldsWhere, specs.Matching.same_worth, proofs.Holding.holds_beside, proofs.Adding.{true_last, pairs_and_one}}
use Rattle.ct_operators.{proofs.Comparing.shown_never, proofs.Reaching.{from_beside, some_among, foremost, behind}}
use Rattle.ct_operators.proofs.matching.shown_as.Goals as goal

pub returns-then-differ-clause-holds : goal.returns-then-differ-clause-holds
returns-then-differ-clause-holds g c =
    shown_never (g.I.Interner.list c.args.pass.now) c.args.other.now.cells c.args.cells.now c.args.other.now.cond c.words.ensures.begins c.words.ensures.formed
    (λ v. subst (λ ws. same_worth ws c.args.other.now.cells c.args.cells.now v ≡ false) c.words.ensures.words
    (subst (λ ps. same_worth c.words.result.now ps c.args.cells.now v ≡ false) c.as_slice-theirs.ensures (c.differ.ensures c.if-differ.true v)))

pub returns-then-differ-clause-terms : goal.returns-then-differ-clause-terms
returns-then-differ-clause-terms g c t h = absurd (below_literal (g.I.Interner.list c.args.pass.now) c.words.ensures.formed c.words.ensures.begins 1 (inr refl) t h)

pub returns-then-differ-clause-writes : goal.returns-then-differ-clause-writes
returns-then-differ-clause-writes g c = writes_none _ c.words.ensures.formed c.words.ensures.room

pub returns-clause-holds : goal.returns-clause-holds
returns-clause-holds g c =
    let old = g.I.Interner.list c.args.pass.now in
    let mid = g.I.Interner.list c.cells_equal.new.pass in
    let other = c.args.other.now in
    holds_beside old mid (g.I.Interner.list c.and.new.pass) other.cond c.in_ok-same.same (same_worth old other.cells c.args.cells.now) c.and.result c.in_ok-same.ensures.writes.longer c.requires.other.condition
    (subst (λ ps. HoldsWhere mid c.in_ok-same.same (same_worth old ps c.args.cells.now)) c.as_slice-theirs.ensures c.in_ok-same.ensures.holds) c.and.ensures.truth

pub returns-clause-writes : goal.returns-clause-writes
returns-clause-writes g c =
    let mid = g.I.Interner.list c.cells_equal.new.pass in
    let wide : length c.as_slice-theirs.result.now ≡ length c.args.cells.now = ap (λ l. length l) c.as_slice-theirs.ensures ∙ c.requires.other.width_is in
    pairs_and_one c.and.result (folded_and mid c.args.other.now.cond c.in_ok-same.same) _ (length c.args.cells.now) c.in_ok-same.ensures.writes (omega (arith, wide)) (omega (arith, wide, c.in_ok-same.ensures.spare)) c.and.ensures.writes
    (λ z. subst (λ x. IsSome (folded_and mid c.args.other.now.cond x)) (sym (c.in_ok-same.ensures.none (wide ∙ z))) (true_last mid c.args.other.now.cond)) c.and.ensures.unmade c.and.ensures.folds

pub returns-in_err-same-clause-writes : goal.returns-in_err-same-clause-writes
returns-in_err-same-clause-writes g c =
    let wide : length c.as_slice-theirs.result.now ≡ length c.args.cells.now = ap (λ l. length l) c.as_slice-theirs.ensures ∙ c.requires.other.width_is in
    rw (err_from_is_err_and c.from_residual.result c.from_residual.ensures.1).1 (writes_within _ (omega (arith, wide)) c.in_err-same.ensures.writes)

pub returns-clause-terms : goal.returns-clause-terms
returns-clause-terms g c =
    let old = g.I.Interner.list c.args.pass.now in
    let mid = g.I.Interner.list c.cells_equal.new.pass in
    let other = c.args.other.now in
    let cells = c.args.cells.now in
    let same = c.in_ok-same.same in
    from_beside old mid (g.I.Interner.list c.and.new.pass) other.cond same (BelowSome old (other.cond ∷ (other.cells ++ cells))) c.and.result c.in_ok-same.ensures.writes.longer c.words.ensures.formed c.requires.other.condition
    (λ t h. record { place = other.cond; among = foremost other.cond (other.cells ++ cells); below = h })
    (λ t h. some_among old (other.cells ++ cells) (other.cond ∷ (other.cells ++ cells)) t (behind other.cond (other.cells ++ cells))
    (subst (λ ps. TermsFrom mid same (BelowSome old (ps ++ cells))) c.as_slice-theirs.ensures c.in_ok-same.ensures.terms t h))
    c.and.ensures.terms
