use Rattle.std.{proofs.Common.{ap, arith, length, refl, subst, sym, ◌∙◌}, specs.Prelude.None, proofs.lemmas.Result.IfOk-at_ok}
use Rattle.ct_word.{specs.Reading.commits_of, proofs.Prefixes.{prefix_of_prefix, prefix_same}}
use mathlib.Core.List.{IsPrefix}
use Rattle.ct_arena.specs.Seen.{Seen}
use Rattle.ct_keeper.specs.Catalogue.{IsNewest}
use Rattle.ct_statement.specs.Unmet.{IsWant}
use Rattle.ct_transaction.{specs.Sessions.state_of, proofs.Going.version_within, proofs.Ordered.{memory_carried, tally_kept}, proofs.Replies.proceeds}
use Rattle.ct_session.{proofs.Again.full_refused, proofs.Outside.refused_outside}
use Rattle.ct_session.proofs.knowing.wanting.Goals as goal

pub returns-in_default-clause-longer : goal.returns-in_default-clause-longer
returns-in_default-clause-longer g c = subst (λ (p : Seen). IsPrefix c.args.session.pass.words p.words) (sym c.refusal.ensures.pass) (prefix_same c.args.session.pass.words)

pub returns-in_default-clause-session : goal.returns-in_default-clause-session
returns-in_default-clause-session g c = let seen = c.requires.seen in c.refusal.ensures.session (record { seen_is = omega (arith, seen); open_is = tt })

pub returns-in_default-clause-executes : goal.returns-in_default-clause-executes
returns-in_default-clause-executes g c = λ first st began inserted.
    let N = g.N.Site.log.cap in
    let pass = c.args.session.pass in
    c.refusal.ensures.executes N (state_of first c.args.session.seen c.args.session.fresh None) first.words st
    (memory_carried N first pass c.args.session.seen c.args.session.fresh None None st (proceeds N first pass began.longer began.kept c.words-before.ensures.room began.numbered c.words-before.ensures.numbered) began.kept refl)

pub returns-in-Err-clause-session : goal.returns-in-Err-clause-session
returns-in-Err-clause-session g c =
    let known = version_within c.args.session.pass.words c.begin-pass.result.0.words c.begin-pass.ensures.longer c.args.session.seen c.requires.seen in
    c.refusal-in-Err.ensures.session (record { seen_is = omega (arith, known); open_is = tt })

pub returns-in-Err-clause-executes : goal.returns-in-Err-clause-executes
returns-in-Err-clause-executes g c = λ first st began inserted.
    let N = g.N.Site.log.cap in
    let now = c.begin-pass.result.0 in
    let longer = prefix_of_prefix first.words c.args.session.pass.words now.words began.longer c.begin-pass.ensures.longer in
    let kept = tally_kept now c.args.session.pass c.begin-pass.ensures.pass ∙ began.kept in
    c.refusal-in-Err.ensures.executes N (state_of first c.args.session.seen c.args.session.fresh None) first.words st
    (memory_carried N first now c.args.session.seen c.args.session.fresh None None st (proceeds N first now longer kept c.words-now.ensures.room began.numbered c.words-now.ensures.numbered) kept refl)

pub returns-in-Ok-clause-session : goal.returns-in-Ok-clause-session
returns-in-Ok-clause-session g c =
    let now = c.begin-pass.result.0 in
    let newest = (IfOk-at_ok (IsNewest now.words) c.in-Ok.is c.begin-pass.ensures.snapshot).version in
    let known = version_within c.args.session.pass.words now.words c.begin-pass.ensures.longer c.args.session.seen c.requires.seen in
    c.refusal-in-Ok.ensures.session (record { seen_is = omega (arith, known, newest); open_is = tt })

pub returns-in-Ok-clause-executes : goal.returns-in-Ok-clause-executes
returns-in-Ok-clause-executes g c = λ first st began inserted.
    let N = g.N.Site.log.cap in
    let pass = c.args.session.pass in
    let now = c.begin-pass.result.0 in
    let at = c.in-Ok.snapshot.version in
    let newest = (IfOk-at_ok (IsNewest now.words) c.in-Ok.is c.begin-pass.ensures.snapshot).version in
    let kept = tally_kept now pass c.begin-pass.ensures.pass in
    let low = version_within pass.words now.words c.begin-pass.ensures.longer c.args.session.seen c.requires.seen in
    let begun = version_within first.words now.words (prefix_of_prefix first.words pass.words now.words began.longer c.begin-pass.ensures.longer) (length (commits_of first.words)) (omega arith) in
    c.refusal-in-Ok.ensures.executes N (state_of first c.args.session.seen c.args.session.fresh None) first.words st
    (refused_outside N first now c.args.session.seen c.args.session.fresh at (record {
      longer = prefix_of_prefix first.words pass.words now.words began.longer c.begin-pass.ensures.longer;
      kept = kept ∙ began.kept;
      numbered = began.numbered;
      all = omega (arith, begun, newest);
    }) c.words-now.ensures.room c.words-now.ensures.numbered (omega (arith, newest)) (omega (arith, low, newest)) st _
    (full_refused N pass now c.args.session.fresh at st c.begin-pass.ensures.longer (ap (λ t. t.session) c.begin-pass.ensures.pass) c.words-now.ensures.room newest inserted
    (subst (λ why. IsWant N pass.words why) c.in-Full.is c.requires.want)))
