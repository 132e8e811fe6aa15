use Rattle.std.{proofs.Common.{◌≡◌, ◌+◌, true, length, refl, sym, subst, arith}, specs.Prelude.{IfOk, OnOk, is_err, ◌⊎◌}, proofs.lemmas.Result.{IfOk-weaker, err_from_is_err_and}}
use Rattle.ct_word.specs.Stands.{TermBelow}
use Rattle.ct_query.{specs.Fits.FitsRows, specs.Pred.condition_of}
use Rattle.ct_condition.{specs.Rows.words_on, specs.Terms.{TermsFrom, BelowSome}, specs.Writes.Writes, proofs.Writes.{writes_as, writes_both, writes_within}}
use Rattle.ct_operators.{specs.Terms.IsPlaced, specs.Judging.{FitsTest, Beside, first_words, test_words}, proofs.Choosing.{new_on_cells, words_on_cells}}
use Rattle.ct_operators.proofs.judging.passing.Goals.{After-pred}
use Rattle.ct_operators.proofs.judging.passing.Goals as goal

fits : (g : _) (c : After-pred g) → FitsRows (length c.args.cells.now) (condition_of c.in-Holds.p.now)
fits g c = subst (FitsTest (g.I.Interner.list c.args.pass.now) (length c.args.cells.now)) c.in-Holds.is c.requires.fits

-- the words of a predicate
words : (g : _) (c : After-pred g) → words_on (g.I.Interner.list c.args.pass.now) c.args.cells.now (condition_of c.in-Holds.p.now)
    ≡ first_words (g.I.Interner.list c.args.pass.now) c.args.test + test_words (g.I.Interner.list c.args.pass.now) (length c.args.cells.now) c.args.test
words g c =
    let old = g.I.Interner.list c.args.pass.now in
    let cells = c.args.cells.now in
    subst (λ x. words_on old cells (condition_of c.in-Holds.p.now) ≡ first_words old x + test_words old (length cells) x) (sym c.in-Holds.is)
    (words_on_cells old cells cells (condition_of c.in-Holds.p.now) refl (fits g c).columns)

pub returns-in-Holds-clause-writes : goal.returns-in-Holds-clause-writes
returns-in-Holds-clause-writes g c = writes_as (words g (goal.at.returns-in-Holds-clause-writes g c).After-pred) c.pred.ensures.writes

pub returns-in_ok-gone-in-Fails-clause-writes : goal.returns-in_ok-gone-in-Fails-clause-writes
returns-in_ok-gone-in-Fails-clause-writes g c =
    let old = g.I.Interner.list c.args.pass.now in
    subst (λ x. Writes g.I.Interner.list g.I.Interner.made g.I.Interner.kept g.I.Interner.lent g.N.Site.log.cap c.args.pass.now c.not.new.pass (first_words old x + test_words old (length c.args.cells.now) x) (is_err c.not.result)) (sym c.in-Fails.is)
    (writes_within _ (omega arith) (writes_both c.in_ok-gone-in-Fails.ensures.writes c.not.ensures.writes))

pub returns-in_err-gone-in-Fails-clause-writes : goal.returns-in_err-gone-in-Fails-clause-writes
returns-in_err-gone-in-Fails-clause-writes g c =
    let old = g.I.Interner.list c.args.pass.now in
    rw (err_from_is_err_and c.from_residual.result c.from_residual.ensures.1).1
    (subst (λ x. Writes g.I.Interner.list g.I.Interner.made g.I.Interner.kept g.I.Interner.lent g.N.Site.log.cap c.args.pass.now c.on_row.new.pass (first_words old x + test_words old (length c.args.cells.now) x) true) (sym c.in-Fails.is)
    (writes_within _ (omega arith) c.in_err-gone-in-Fails.ensures.writes))

pub returns-in-Among-clause-writes : goal.returns-in-Among-clause-writes
returns-in-Among-clause-writes g c =
    let old = g.I.Interner.list c.args.pass.now in
    subst (λ x. Writes g.I.Interner.list g.I.Interner.made g.I.Interner.kept g.I.Interner.lent g.N.Site.log.cap c.args.pass.now c.among.new.pass (first_words old x + test_words old (length c.args.cells.now) x) (is_err c.among.result)) (sym c.in-Among.is)
    (writes_within _ (omega arith) c.among.ensures.writes)

pub returns-in-Holds-clause-placed : goal.returns-in-Holds-clause-placed
returns-in-Holds-clause-placed g c =
    let new = g.I.Interner.list c.pred.new.pass in
    let cells = c.args.cells.now in
    subst (λ x. OnOk c.pred.result (first_words new x ≡ 0)) (sym c.in-Holds.is)
    (subst (λ n. OnOk c.pred.result (n ≡ 0)) (new_on_cells new cells cells (condition_of c.in-Holds.p.now) refl (fits g (goal.at.returns-in-Holds-clause-placed g c).After-pred).columns)
    c.pred.ensures.placed)

pub returns-in_ok-gone-in-Fails-clause-terms : goal.returns-in_ok-gone-in-Fails-clause-terms
returns-in_ok-gone-in-Fails-clause-terms g c =
    let old = g.I.Interner.list c.args.pass.now in
    let mid = g.I.Interner.list c.on_row.new.pass in
    let new = g.I.Interner.list c.not.new.pass in
    let cells = c.args.cells.now in
    subst (λ x. IfOk c.not.result (λ place. TermsFrom new place (λ t. BelowSome old cells t ⊎ Beside old cells x t))) (sym c.in-Fails.is)
    (IfOk-weaker c.not.result (λ place. TermsFrom new place (TermBelow mid c.in_ok-gone-in-Fails.gone)) (λ place. TermsFrom new place (IsPlaced old c.in-Fails.cond cells))
    (λ place from t h. c.in_ok-gone-in-Fails.ensures.terms t (from t h)) c.not.ensures.terms)
