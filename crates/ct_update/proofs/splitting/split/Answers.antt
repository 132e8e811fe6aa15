use Rattle.std.{proofs.Common.{subst, arith}, proofs.lemmas.Result.err_from_is_err_and}
use Rattle.ct_word.proofs.Prefixes.{prefix_of_prefix, place_in_prefix}
use Rattle.ct_condition.{specs.Terms.TermsFrom, proofs.Writes.{writes_both, writes_within}}
use Rattle.ct_operators.{specs.Building.HoldsWhere, specs.Placing.holds_for, specs.Terms.IsPlaced}
use Rattle.ct_update.{proofs.Equalities.{never_on, never_stays, never_goes, never_terms}, proofs.Updates.{split_stays, split_goes, split_terms}}
use Rattle.ct_word.specs.declared.kinds.Class.TheVariants as class
use Rattle.ct_update.proofs.splitting.split.Goals as goal

pub returns-then-never_holds-clause-stays : goal.returns-then-never_holds-clause-stays
returns-then-never_holds-clause-stays g c =
    never_stays (g.I.Interner.list c.args.pass.now) c.words.ensures.begins c.words.ensures.formed c.args.cond c.args.row.now c.requires.row.condition
    (never_on c.words.result.now (g.I.Interner.list c.args.pass.now) c.as_slice.result.now c.args.row.now.cells c.words.ensures.words c.as_slice.ensures c.args.cond c.args.pairs.now c.never_holds.result c.never_holds.ensures
    c.if-never_holds.true c.requires.pairs)

pub returns-then-never_holds-clause-goes : goal.returns-then-never_holds-clause-goes
returns-then-never_holds-clause-goes g c =
    never_goes (g.I.Interner.list c.args.pass.now) c.words.ensures.begins c.words.ensures.formed c.args.cond c.args.row.now c.requires.row.condition
    (never_on c.words.result.now (g.I.Interner.list c.args.pass.now) c.as_slice.result.now c.args.row.now.cells c.words.ensures.words c.as_slice.ensures c.args.cond c.args.pairs.now c.never_holds.result c.never_holds.ensures
    c.if-never_holds.true c.requires.pairs)

pub returns-then-never_holds-clause-terms : goal.returns-then-never_holds-clause-terms
returns-then-never_holds-clause-terms g c =
    never_terms (g.I.Interner.list c.args.pass.now) c.words.ensures.begins c.words.ensures.formed c.args.cond c.args.row.now c.requires.row.condition
    (never_on c.words.result.now (g.I.Interner.list c.args.pass.now) c.as_slice.result.now c.args.row.now.cells c.words.ensures.words c.as_slice.ensures c.args.cond c.args.pairs.now c.never_holds.result c.never_holds.ensures
    c.if-never_holds.true c.requires.pairs)

pub and-requires-clause-left : goal.and-requires-clause-left
and-requires-clause-left g c =
    place_in_prefix _ _ class.Cond c.args.row.now.cond (prefix_of_prefix _ _ _ c.in_ok-met.ensures.writes.longer c.not.ensures.longer) c.requires.row.condition

pub and-requires-2-clause-left : goal.and-requires-2-clause-left
and-requires-2-clause-left g c =
    place_in_prefix _ _ class.Cond c.args.row.now.cond (prefix_of_prefix _ _ _ (prefix_of_prefix _ _ _ c.in_ok-met.ensures.writes.longer c.not.ensures.longer) c.and.ensures.longer) c.requires.row.condition

pub and-requires-2-clause-right : goal.and-requires-2-clause-right
and-requires-2-clause-right g c =
    place_in_prefix _ _ class.Cond c.in_ok-met.met (prefix_of_prefix _ _ _ c.not.ensures.longer c.and.ensures.longer) c.in_ok-met.ensures.holds.class

pub returns-clause-stays : goal.returns-clause-stays
returns-clause-stays g c =
    let old = g.I.Interner.list c.args.pass.now in
    let w1 = g.I.Interner.list c.on_row.new.pass in
    let met = c.in_ok-met.met in
    split_stays old w1 (g.I.Interner.list c.not.new.pass) (g.I.Interner.list c.and.new.pass) (g.I.Interner.list c.and-2.new.pass) c.in_ok-met.ensures.writes.longer c.not.ensures.longer c.and.ensures.longer c.and-2.ensures.longer
    c.words.ensures.formed c.in_ok-met.ensures.writes.formed c.and.ensures.formed c.args.cond c.args.row.now c.requires.row.condition met c.in_ok-missed.missed c.in_ok-stays.stays c.in_ok-goes.goes
    (subst (λ cs. HoldsWhere w1 met (holds_for old c.args.cond cs)) c.as_slice-2.ensures c.in_ok-met.ensures.holds) (subst (λ cs. TermsFrom w1 met (IsPlaced old c.args.cond cs)) c.as_slice-2.ensures c.in_ok-met.ensures.terms)
    c.in_ok-missed.ensures.truth c.in_ok-missed.ensures.terms c.in_ok-stays.ensures.truth c.in_ok-stays.ensures.terms c.in_ok-goes.ensures.truth c.in_ok-goes.ensures.terms

pub returns-clause-goes : goal.returns-clause-goes
returns-clause-goes g c =
    let old = g.I.Interner.list c.args.pass.now in
    let w1 = g.I.Interner.list c.on_row.new.pass in
    let met = c.in_ok-met.met in
    split_goes old w1 (g.I.Interner.list c.not.new.pass) (g.I.Interner.list c.and.new.pass) (g.I.Interner.list c.and-2.new.pass) c.in_ok-met.ensures.writes.longer c.not.ensures.longer c.and.ensures.longer c.and-2.ensures.longer
    c.words.ensures.formed c.in_ok-met.ensures.writes.formed c.and.ensures.formed c.args.cond c.args.row.now c.requires.row.condition met c.in_ok-missed.missed c.in_ok-stays.stays c.in_ok-goes.goes
    (subst (λ cs. HoldsWhere w1 met (holds_for old c.args.cond cs)) c.as_slice-2.ensures c.in_ok-met.ensures.holds) (subst (λ cs. TermsFrom w1 met (IsPlaced old c.args.cond cs)) c.as_slice-2.ensures c.in_ok-met.ensures.terms)
    c.in_ok-missed.ensures.truth c.in_ok-missed.ensures.terms c.in_ok-stays.ensures.truth c.in_ok-stays.ensures.terms c.in_ok-goes.ensures.truth c.in_ok-goes.ensures.terms

pub returns-clause-terms : goal.returns-clause-terms
returns-clause-terms g c =
    let old = g.I.Interner.list c.args.pass.now in
    let w1 = g.I.Interner.list c.on_row.new.pass in
    let met = c.in_ok-met.met in
    split_terms old w1 (g.I.Interner.list c.not.new.pass) (g.I.Interner.list c.and.new.pass) (g.I.Interner.list c.and-2.new.pass) c.in_ok-met.ensures.writes.longer c.not.ensures.longer c.and.ensures.longer c.and-2.ensures.longer
    c.words.ensures.formed c.in_ok-met.ensures.writes.formed c.and.ensures.formed c.args.cond c.args.row.now c.requires.row.condition met c.in_ok-missed.missed c.in_ok-stays.stays c.in_ok-goes.goes
    (subst (λ cs. HoldsWhere w1 met (holds_for old c.args.cond cs)) c.as_slice-2.ensures c.in_ok-met.ensures.holds) (subst (λ cs. TermsFrom w1 met (IsPlaced old c.args.cond cs)) c.as_slice-2.ensures c.in_ok-met.ensures.terms)
    c.in_ok-missed.ensures.truth c.in_ok-missed.ensures.terms c.in_ok-stays.ensures.truth c.in_ok-stays.ensures.terms c.in_ok-goes.ensures.truth c.in_ok-goes.ensures.terms

pub returns-clause-writes : goal.returns-clause-writes
returns-clause-writes g c =
    writes_within _ (omega arith) (writes_both c.in_ok-met.ensures.writes (writes_both c.in_ok-missed.ensures.writes (writes_both c.in_ok-stays.ensures.writes c.in_ok-goes.ensures.writes)))

pub returns-in_err-met-clause-writes : goal.returns-in_err-met-clause-writes
returns-in_err-met-clause-writes g c = rw (err_from_is_err_and c.from_residual.result c.from_residual.ensures.1).1 (writes_within _ (omega arith) c.in_err-met.ensures.writes)

pub returns-in_err-missed-clause-writes : goal.returns-in_err-missed-clause-writes
returns-in_err-missed-clause-writes g c =
    rw (err_from_is_err_and c.from_residual-in_err-missed.result c.from_residual-in_err-missed.ensures.1).1 (writes_within _ (omega arith) (writes_both c.in_ok-met.ensures.writes c.in_err-missed.ensures.writes))

pub returns-in_err-stays-clause-writes : goal.returns-in_err-stays-clause-writes
returns-in_err-stays-clause-writes g c =
    rw (err_from_is_err_and c.from_residual-in_err-stays.result c.from_residual-in_err-stays.ensures.1).1
    (writes_within _ (omega arith) (writes_both c.in_ok-met.ensures.writes (writes_both c.in_ok-missed.ensures.writes c.in_err-stays.ensures.writes)))

pub returns-in_err-goes-clause-writes : goal.returns-in_err-goes-clause-writes
returns-in_err-goes-clause-writes g c =
    rw (err_from_is_err_and c.from_residual-in_err-goes.result c.from_residual-in_err-goes.ensures.1).1
    (writes_within _ (omega arith) (writes_both c.in_ok-met.ensures.writes (writes_both c.in_ok-missed.ensures.writes (writes_both c.in_ok-stays.ensures.writes c.in_err-goes.ensures.writes))))
